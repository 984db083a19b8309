-- Euclid's steps: the two fractions at hand compare as the given ones do.
use Rattle.std.specs.Ordering.{int_cmp}
use Rattle.std.proofs.Common.{◌≡◌, ◌+◌, pos, ◌*ℤ◌, ◌<ℤ◌, unsigned_abs}
use Rattle.frac128.proofs.order.compare_by_steps.Given as goal

abbrev pub invariant-loop-under_left : goal.invariant-loop-under_left
invariant-loop-under_left l =
    (pos 0 <ℤ l.under_left) × (pos 0 <ℤ l.under_right)
    × (int_cmp (l.left *ℤ l.under_right) (l.right *ℤ l.under_left) ≡ int_cmp (l.fn.a *ℤ l.fn.d) (l.fn.c *ℤ l.fn.b))

abbrev pub decreases-loop-under_left : goal.decreases-loop-under_left
decreases-loop-under_left l = unsigned_abs l.under_left + unsigned_abs l.under_right
