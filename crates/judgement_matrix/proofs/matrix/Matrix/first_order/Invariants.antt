use Rattle.std.proofs.Common.{◌≡◌, ◌-◌, map}
use Rattle.std.specs.List.{range_with_len}
use Rattle.judgement_matrix.specs.declared.tag.Tag.TheVariants.{Order}
use Rattle.judgement_matrix.specs.Rows.{order_rows}
use Rattle.judgement_matrix.specs.Walk.{row_fails, first_stop}
use Rattle.judgement_matrix.proofs.matrix.Matrix.first_order.Given as goal

abbrev pub invariant-loop-p : goal.invariant-loop-p
invariant-loop-p l =
    first_stop (row_fails l.self l.values) (map (λ p. Order p) (range_with_len l.p (l.size - l.p))) ≡ first_stop (row_fails l.self l.values) (order_rows l.self)
