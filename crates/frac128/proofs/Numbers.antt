-- Steps of the arithmetic of numbers, over variables.
use Rattle.std.specs.Int.{IsGcd}
use Rattle.std.proofs.Math.Nat.{eq-zero-or-pos, le_of_dvd}
use Rattle.std.proofs.lemmas.Nat.Gcd.{IsGcd-from_zero, same_from_IsGcd}
use Rattle.std.proofs.Common.{◌≡◌, ◌⊎◌, inl, inr, ℕ, ◌<◌, ℤ, pos, negsuc, ◌+ℤ◌, ◌-ℤ◌, ◌*ℤ◌, ◌≤ℤ◌, ◌<ℤ◌, ◌↔◌, ◌^◌, neg_ℤ, int_div, unsigned_abs, [], ◌∷◌, refl, sym, subst, arith}
use Rattle.integers.specs.Divisibility.{IsLowest, IsGcdOf}
use Rattle.integers.proofs.Divisibility.{lowest_terms, unsigned_abs-neg}
use Rattle.integers.proofs.Laws.{lin}
use Rattle.integers.proofs.Ring.{con, neg, ◌⊕◌, ◌⊖◌, ◌⊗◌, ◌≗◌, ◌✶◌, ◌⇐◌, combine6}
use Rattle.frac128.specs.Range.{IsInRange}

-- a quotient lowered by 1 with the rest raised by the divisor
pub lowered : (a d q r x y : ℤ) → q *ℤ d +ℤ r ≡ a → x ≡ q -ℤ pos 1 → y ≡ r +ℤ d → a ≡ x *ℤ d +ℤ y
lowered =
    combine6 (λ a d q r x y. a ≗ x ⊗ d ⊕ y ⇐ neg (con (pos 1)) ✶ (q ⊗ d ⊕ r ≗ a) ∷ neg d ✶ (x ≗ q ⊖ con (pos 1)) ∷ neg (con (pos 1)) ✶ (y ≗ r ⊕ d) ∷ []) refl

-- a greatest common divisor is below what both numbers are below
pub IsGcd-below : (a b g n : ℕ) → a < n → b < n → IsGcd a b g → g < n
IsGcd-below a b g n p q h = cases (eq-zero-or-pos b)
  where
    cases : (b ≡ 0) ⊎ 0 < b → g < n
    cases (inl e) = let same : g ≡ a = same_from_IsGcd a b g a h (IsGcd-from_zero a b e) in omega arith
    cases (inr s) = let least = le_of_dvd s h.1 in omega arith

-- both parts of a fraction divided by their greatest common divisor
pub lowest_parts : (a b z : ℤ) → pos 0 <ℤ b → IsGcdOf a b (unsigned_abs z) → pos 0 ≤ℤ z → IsLowest (int_div a z) (int_div b z) × (pos 0 <ℤ int_div b z)
    × (a *ℤ int_div b z ≡ int_div a z *ℤ b)
lowest_parts a b (pos n) p h s = lowest_terms a b n p h
lowest_parts a b (negsuc n) p h s = absurd s.le

-- a natural number is not negative
pub pos_nonneg : (n : ℕ) → pos 0 ≤ℤ pos n
pos_nonneg n = omega (arith, lin)

-- ---- the range

-- 0 is in the range
zero_in_range : IsInRange (pos 0)
zero_in_range = omega arith

-- a number that is 0 is in the range
pub in_range-zero : (z : ℤ) → z ≡ pos 0 → IsInRange z
in_range-zero z is = subst IsInRange (sym is) zero_in_range

-- the range is the same on both sides of 0
pub in_range-neg : (z : ℤ) → IsInRange (neg_ℤ z) ↔ IsInRange z
in_range-neg z = (λ h. subst (λ n. n < 2 ^ 127) (unsigned_abs-neg z) h, λ h. subst (λ n. n < 2 ^ 127) (sym (unsigned_abs-neg z)) h)
