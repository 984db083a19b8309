use Rattle.std.proofs.Common.{ℕ, ◌<◌}
use Rattle.cert_check.specs.Refuting.{IsRowInOrder}
use Rattle.cert_check.proofs.refuting.are_rows_in_order.Given as goal

abbrev pub invariant-loop-i : goal.invariant-loop-i
invariant-loop-i l = (k : ℕ) → k < l.i → IsRowInOrder l.matrix l.entries k
