use Rattle.std.proofs.Common.{◌∙◌, ap, drop, get_or, map, neg_ℤ, replicate, set, pos}
use Rattle.lex_simplex.specs.Answer.{spread_weights}
use Rattle.std.proofs.lemmas.List.{with_items_is}
use Rattle.lex_simplex.proofs.Readings.Weights.{weights_at_row}
use Rattle.lex_simplex.proofs.reading.empty_weights.Goals as goal

pub returns : goal.returns
returns c =
    let written = with_items_is c.in_ok-weights.weights c.weigh_row.new.weights (c.weigh_row.auto.weights ∙ c.as_mut_slice.ensures.len) in
    let empty = c.as_mut_slice.ensures.value ∙ c.in_ok-weights.ensures ∙ ap (λ n. replicate n (pos 0)) c.quantities.ensures in
    c.make.ensures ∙ written ∙ weights_at_row c.args.cells.now c.args.row c.quantity_row.result.now c.as_mut_slice.result.now c.weigh_row.new.weights
    c.quantity_row.ensures.value empty
    (c.weigh_row.ensures ∙ ap (λ cs. set (map neg_ℤ (spread_weights cs (drop 2 c.quantity_row.result.now) c.as_mut_slice.result.now)) c.args.row
    (get_or c.quantity_row.result.now 0 (pos 0))) c.columns.ensures)
