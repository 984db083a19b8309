-- The test of equality of shifts, that it says whether their numbers are the same, and the order of shifts.
use Rattle.std.specs.Prelude.{◌≡◌, Bool, Option}
use Rattle.std.specs.Bool.{Decides}
use Rattle.std.specs.Ordering.{on, int_eq, int_cmp, is_eq, as_partial_cmp}
use Rattle.std.specs.declared.cmp.Ordering.{Ordering}
use Rattle.std.specs.Cmp.{IsEquivalence, IsTotalOrder, IsPartialOrder, decided, signed_Decides, int_cmp_total, on_total, po}
use Rattle.std.specs.Cmp.Lexicographic.{pointwise, pointwise_decides, slice_cmp, lists_total, lists_ties}
use Rattle.std.proofs.Common.{refl, ap}
use Rattle.std.proofs.lemmas.Bool.Decides.{Decides-like}
use Rattle.judgement_matrix.specs.declared.shift.Shift.{Shift}

-- the same numbers
abbrev pub same_shift : Shift → Shift → Bool
same_shift = on (λ (shift : Shift). shift.by) (pointwise int_eq)

-- the test decides whether two shifts are the same
pub same_shift-Decides : (a b : Shift) → Decides (same_shift a b) (a ≡ b)
same_shift-Decides a b =
    Decides-like (same_shift a b) (λ e. λ i. record { by = e i }) (λ e. ap (λ (shift : Shift). shift.by) e)
    (pointwise_decides signed_Decides a.by b.by)

-- so it is an equivalence
pub same_shift_is_equivalent : IsEquivalence same_shift
same_shift_is_equivalent = decided same_shift same_shift-Decides

-- ---- the order of `IsShiftBefore`

abbrev pub shift_order : Shift → Shift → Ordering
shift_order = on (λ (shift : Shift). shift.by) (slice_cmp int_cmp)

-- it is one
pub shift_order_is_total : IsTotalOrder shift_order
shift_order_is_total = on_total (λ (shift : Shift). shift.by) (lists_total int_cmp_total)

-- two that tie are the same
pub ties_are_same : (a b : Shift) → same_shift a b ≡ is_eq (shift_order a b)
ties_are_same a b = lists_ties int_cmp (λ x y. refl) a.by b.by

pub shift_order_is_partial : IsPartialOrder same_shift (as_partial_cmp shift_order)
shift_order_is_partial = po shift_order_is_total ties_are_same
