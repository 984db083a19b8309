use Rattle.std.proofs.Common.{◌≡◌, ◌++◌, ◌-◌, map}
use Rattle.std.specs.List.{range_with_len}
use Rattle.judgement_matrix.specs.Rows.{order_rows}
use Rattle.judgement_matrix.specs.declared.tag.Tag.TheVariants.{Order}
use Rattle.lp_macbeth.proofs.tags.push_order.Given as goal

abbrev pub invariant-loop-p : goal.invariant-loop-p
invariant-loop-p l = l.tags.items ++ map (λ p. Order p) (range_with_len l.p (l.size - l.p)) ≡ l.fn.tags.items ++ order_rows l.matrix
