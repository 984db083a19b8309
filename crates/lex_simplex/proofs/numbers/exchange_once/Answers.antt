use Rattle.std.proofs.Common.{◌≡◌, ◌∙◌, ap, get_or, pos, negsuc, ◌<ℤ◌, rules, subst, sym, List, ℤ, arith}
use Rattle.lex_simplex.specs.Steps.{ExchangeFitsBy, reduced_list}
use Rattle.lex_simplex.proofs.CellLists.Exchange.{den_after, own_is}
use Rattle.lex_simplex.proofs.CellLists.Once.{no_divisor-once, once-fits, once-step, once_below, reduced_list-none}
use Rattle.lex_simplex.proofs.numbers.exchange_once.Goals as goal

pub subtract-requires : goal.subtract-requires
subtract-requires c = once_below c.args.place c.args.pivot.now c.args.row.now c.entries.result.now c.requires.can c.entries.ensures

pub returns-in_err-subtract-clause-done : goal.returns-in_err-subtract-clause-done
returns-in_err-subtract-clause-done c =
    let fits = once-fits c.args.q c.args.place c.args.pivot.now c.args.row.now c.entries.result.now c.requires.can c.entries.ensures in
    let none : ¬ ExchangeFitsBy (pos 1) c.args.q c.args.place c.args.pivot.now c.args.row.now = λ h. c.in_err-subtract.ensures.done.too_wide (fits.1 h) in
    search rules

pub reduce-requires : goal.reduce-requires
reduce-requires c =
    let step = c.in_ok-subtract.ensures.done.value_is ∙ once-step c.args.q c.args.place c.args.pivot.now c.args.row.now c.entries.result.now c.requires.can
    c.entries.ensures in
    subst (λ xs. pos 0 <ℤ get_or xs 0 (pos 0)) (sym step) (den_after (pos 1) c.args.q c.args.place c.args.pivot.now c.args.row.now c.requires.can)

pub returns-then-ne-clause-done : goal.returns-then-ne-clause-done
returns-then-ne-clause-done c =
    let fits = once-fits c.args.q c.args.place c.args.pivot.now c.args.row.now c.entries.result.now c.requires.can c.entries.ensures in
    let step = c.in_ok-subtract.ensures.done.value_is ∙ once-step c.args.q c.args.place c.args.pivot.now c.args.row.now c.entries.result.now c.requires.can
    c.entries.ensures in
    record { ok = fits.0 c.in_ok-subtract.ensures.done.ok; too_wide = tt; value_is = c.reduce.ensures ∙ ap reduced_list step }

pub returns-else-ne-clause-done : goal.returns-else-ne-clause-done
returns-else-ne-clause-done c =
    let fits = once-fits c.args.q c.args.place c.args.pivot.now c.args.row.now c.entries.result.now c.requires.can c.entries.ensures in
    let step = c.in_ok-subtract.ensures.done.value_is ∙ once-step c.args.q c.args.place c.args.pivot.now c.args.row.now c.entries.result.now c.requires.can
    c.entries.ensures in
    let read : c.index-cells-place.result ≡ negsuc 0 = search rules in
    let from : c.index-cells-place.result ≡ get_or c.args.pivot.now c.args.place c.index-cells-place.result = c.index-cells-place.is
    ∙ ap (λ (xs : List ℤ). get_or xs c.args.place c.index-cells-place.result) c.cells.ensures in
    let den : get_or c.args.pivot.now c.args.place (pos 0) ≡ negsuc 0 =
    sym (own_is c.args.pivot.now c.args.place c.index-cells-place.result (omega (arith, c.requires.can.within, c.requires.can.same_length)) from)
    ∙ read in
    let none = no_divisor-once c.args.q c.args.place c.args.pivot.now c.args.row.now c.requires.can c.requires.divides den in
    record { ok = fits.0 c.in_ok-subtract.ensures.done.ok; too_wide = tt; value_is = step ∙ sym (reduced_list-none _ none) }
