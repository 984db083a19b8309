use Rattle.std.proofs.Common.{◌≡◌, ◌-◌, map}
use Rattle.std.specs.List.{range_with_len}
use Rattle.judgement_matrix.specs.Rows.{order_rows}
use Rattle.judgement_matrix.specs.declared.tag.Tag.TheVariants.{Order}
use Rattle.value_scale.specs.Narrowing.{with_rows}
use Rattle.value_scale.proofs.slacks.with_order_rows.Given as goal

abbrev pub invariant-loop-p : goal.invariant-loop-p
invariant-loop-p l =
    with_rows l.matrix l.values l.element (map (λ p. Order p) (range_with_len l.p (l.size - l.p))) l.left
    ≡ with_rows l.matrix l.values l.element (order_rows l.matrix) l.initial.left
