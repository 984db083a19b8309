-- The definitions at small problems: a least point with the certificate of its cost, and a problem that no point meets.
use Rattle.std.specs.Int.Signed.{<ℤ_irrefl, le_z_yes, lt_z_yes}
use Rattle.std.proofs.Common.{◌≡◌, Ok, Err, All, lit<, inl, inr, ℕ, ◌<◌, List, [], ◌∷◌, ℤ, pos, negsuc, ◌+ℤ◌, ◌*ℤ◌, ◌≤ℤ◌, ◌<ℤ◌, refl, arith}
use Rattle.std.proofs.lemmas.List.Elements.{All-nil, All-cons, All-head, All-tail}
use Rattle.integers.specs.Divisibility.{gcd_of}
use Rattle.integers.specs.Fraction.{fraction_of}
use Rattle.integers.specs.Lexicographic.{LexLess}
use Rattle.frac128.specs.Checked.{checked_sum, checked_difference, checked_product, checked_quotient}
use Rattle.frac128.specs.Frac.{lowest_terms}
use Rattle.integers.proofs.Ring.{con, ◌⊕◌, ◌⊗◌, ◌≼◌, ◌≺◌, ◌✶◌, ◌⇐◌, combine2, combine3}
use Rattle.frac128.specs.Problem.{ProblemData, IsRow, IsProblem, IsRowMetBy, IsFeasible, IsLeast, cost_and_numbers, AreRowMultipliers, IsSpanCertificate, IsFarkasCertificate}
use Rattle.frac128.specs.declared.problem.Row.{Row}
use Rattle.frac128.specs.Range.{IsInRange}

-- x - y ≥ 3
abbrev pub gap : Row
gap = record { coefs = pos 1 ∷ negsuc 0 ∷ []; bound = pos 3 }

-- the least 2 x + 5 y with x - y ≥ 3
abbrev pub costs : ProblemData
costs = record { vars = 2; cost = pos 2 ∷ pos 5 ∷ []; rows = gap ∷ [] }

-- two numbers in range
both_in_range : (a b : ℤ) → IsInRange a → IsInRange b → All IsInRange (a ∷ b ∷ [])
both_in_range a b h k = All-cons IsInRange a (b ∷ []) h (All-cons IsInRange b [] k (All-nil IsInRange))

-- the data are of a problem
pub costs_ok : IsProblem costs
costs_ok = record {
  one_each = refl;
  cost_nonneg = All-cons (λ x. pos 0 ≤ℤ x) (pos 2) (pos 5 ∷ []) (le_z_yes tt) (All-cons (λ x. pos 0 ≤ℤ x) (pos 5) [] (le_z_yes tt) (All-nil (λ x. pos 0 ≤ℤ x)));
  cost_in_range = both_in_range (pos 2) (pos 5) (lit< tt) (lit< tt);
  rows_fit =
      All-cons (IsRow 2) gap [] (record { one_each = refl; coefs_in_range = both_in_range (pos 1) (negsuc 0) (lit< tt) (lit< tt); bound_in_range = lit< tt })
      (All-nil (IsRow 2));
}

-- one row alone is named by its position
one_entry : (y : ℤ) → pos 0 ≤ℤ y → AreRowMultipliers 1 ((0, y) ∷ [])
one_entry y h = record {
  positions_rise = λ k more. absurd (omega arith);
  positions_below = All-cons (λ (e : ℕ × ℤ). e.0 < 1) (0, y) [] (omega arith) (All-nil (λ (e : ℕ × ℤ). e.0 < 1));
  nonneg = All-cons (λ (e : ℕ × ℤ). pos 0 ≤ℤ e.1) (0, y) [] h (All-nil (λ (e : ℕ × ℤ). pos 0 ≤ℤ e.1));
}

-- twice the row bounds the cost by 6
pub cost_certificate : IsSpanCertificate costs (record { den = pos 1; on = (0, pos 2) ∷ [] }) (record { num = pos 6; den = pos 1 })
cost_certificate = record {
  den_pos = lt_z_yes tt;
  value_den_pos = lt_z_yes tt;
  entries = one_entry (pos 2) (le_z_yes tt);
  below_cost = (le_z_yes tt, (le_z_yes tt, tt));
  value_is = refl;
}

-- the point x = 3, y = 0 meets the problem
pub three_feasible : IsFeasible costs (pos 3 ∷ pos 0 ∷ []) (pos 1)
three_feasible = record {
  den_pos = lt_z_yes tt;
  one_each = refl;
  nonneg = All-cons (λ x. pos 0 ≤ℤ x) (pos 3) (pos 0 ∷ []) (le_z_yes tt) (All-cons (λ x. pos 0 ≤ℤ x) (pos 0) [] (le_z_yes tt) (All-nil (λ x. pos 0 ≤ℤ x)));
  meets = All-cons (IsRowMetBy (pos 3 ∷ pos 0 ∷ []) (pos 1)) gap [] (le_z_yes tt) (All-nil (IsRowMetBy (pos 3 ∷ pos 0 ∷ []) (pos 1)));
}

-- the row at a point of two numbers
met : (a b m : ℤ) → IsFeasible costs (a ∷ b ∷ []) m → (pos 3 *ℤ m) ≤ℤ (pos 1 *ℤ a +ℤ (negsuc 0 *ℤ b +ℤ pos 0))
met a b m f = All-head (IsRowMetBy (a ∷ b ∷ []) m) gap [] f.meets

-- the second number is not negative
second : (a b m : ℤ) → IsFeasible costs (a ∷ b ∷ []) m → pos 0 ≤ℤ b
second a b m f = All-head (λ x. pos 0 ≤ℤ x) b [] (All-tail (λ x. pos 0 ≤ℤ x) a (b ∷ []) f.nonneg)

-- no point costs less than 6
cheaper : (a b m : ℤ) → (pos 3 *ℤ m) ≤ℤ (pos 1 *ℤ a +ℤ (negsuc 0 *ℤ b +ℤ pos 0)) → pos 0 ≤ℤ b
    → ¬ ((pos 2 *ℤ a +ℤ (pos 5 *ℤ b +ℤ pos 0)) *ℤ pos 1) <ℤ (pos 6 *ℤ m)
cheaper a b m h k less =
    <ℤ_irrefl (combine3 (λ a b m. con (pos 0) ≺ con (pos 0)
    ⇐ con (pos 2) ✶ (con (pos 3) ⊗ m ≼ con (pos 1) ⊗ a ⊕ (con (negsuc 0) ⊗ b ⊕ con (pos 0))) ∷ con (pos 7) ✶ (con (pos 0) ≼ b)
    ∷ con (pos 1) ✶ ((con (pos 2) ⊗ a ⊕ (con (pos 5) ⊗ b ⊕ con (pos 0))) ⊗ con (pos 1) ≺ con (pos 6) ⊗ m) ∷ []) refl a b m (le_z_yes tt) h (le_z_yes tt) k
    (lt_z_yes tt) less)

-- no point has a first number below 3
shorter : (a b m : ℤ) → (pos 3 *ℤ m) ≤ℤ (pos 1 *ℤ a +ℤ (negsuc 0 *ℤ b +ℤ pos 0)) → pos 0 ≤ℤ b → ¬ (a *ℤ pos 1) <ℤ (pos 3 *ℤ m)
shorter a b m h k less =
    <ℤ_irrefl (combine3 (λ a b m. con (pos 0) ≺ con (pos 0)
    ⇐ con (pos 1) ✶ (con (pos 3) ⊗ m ≼ con (pos 1) ⊗ a ⊕ (con (negsuc 0) ⊗ b ⊕ con (pos 0))) ∷ con (pos 1) ✶ (con (pos 0) ≼ b)
    ∷ con (pos 1) ✶ (a ⊗ con (pos 1) ≺ con (pos 3) ⊗ m) ∷ []) refl a b m (le_z_yes tt) h (le_z_yes tt) k (lt_z_yes tt) less)

-- no point has a second number below 0
negative : (b m : ℤ) → pos 0 ≤ℤ b → ¬ (b *ℤ pos 1) <ℤ (pos 0 *ℤ m)
negative b m k less =
    <ℤ_irrefl (combine2 (λ b m. con (pos 0) ≺ con (pos 0) ⇐ con (pos 1) ✶ (con (pos 0) ≼ b) ∷ con (pos 1) ✶ (b ⊗ con (pos 1) ≺ con (pos 0) ⊗ m) ∷ []) refl b m
    (le_z_yes tt) k (lt_z_yes tt) less)

-- and is the least
pub three_least : IsLeast costs (pos 3 ∷ pos 0 ∷ []) (pos 1)
three_least = record { feasible = three_feasible; none_before = none }
  where
    none : (y : List ℤ) (m : ℤ) → IsFeasible costs y m → ¬ LexLess (cost_and_numbers costs y m) (cost_and_numbers costs (pos 3 ∷ pos 0 ∷ []) (pos 1))
    none [] m f below = absurd (let e = f.one_each in omega arith)
    none (a ∷ []) m f below = absurd (let e = f.one_each in omega arith)
    none (a ∷ b ∷ c ∷ y) m f below = absurd (let e = f.one_each in omega arith)
    none (a ∷ b ∷ []) m f (inl less) = cheaper a b m (met a b m f) (second a b m f) less
    none (a ∷ b ∷ []) m f (inr h) =
        elim h.1 [
          | inl less ↦ shorter a b m (met a b m f) (second a b m f) less
          | inr k ↦ elim k.1 [ inl less ↦ negative b m (second a b m f) less | inr end ↦ end.1 ]
        ]

-- the row -x ≥ 1 is met by no number of at least 0
pub refuted : IsFarkasCertificate (record { vars = 1; cost = pos 0 ∷ []; rows = record { coefs = negsuc 0 ∷ []; bound = pos 1 } ∷ [] })
    (record { den = pos 1; on = (0, pos 1) ∷ [] })
refuted = record {
  entries = one_entry (pos 1) (le_z_yes tt);
  none_above = All-cons (λ c. c ≤ℤ pos 0) (negsuc 0) [] (le_z_yes tt) (All-nil (λ c. c ≤ℤ pos 0));
  bound_above = lt_z_yes tt;
}

-- ---- checked arithmetic

-- 1/6 + 1/3 = 1/2
sixth_and_third : checked_sum (record { num = pos 1; den = pos 6 }) (record { num = pos 1; den = pos 3 }) ≡ Ok (record { num = pos 1; den = pos 2 })
unfolding checked_sum lowest_terms gcd_of
sixth_and_third = refl

-- 1/2 - 2/3 = -1/6
half_less_two_thirds : checked_difference (record { num = pos 1; den = pos 2 }) (record { num = pos 2; den = pos 3 })
    ≡ Ok (record { num = negsuc 0; den = pos 6 })
unfolding checked_difference checked_sum lowest_terms gcd_of
half_less_two_thirds = refl

-- (2/3) / (-4/5) = -5/6
two_thirds_by : checked_quotient (record { num = pos 2; den = pos 3 }) (record { num = negsuc 3; den = pos 5 }) ≡ Ok (record { num = negsuc 4; den = pos 6 })
unfolding checked_quotient checked_product lowest_terms gcd_of
two_thirds_by = refl

-- the largest number and 1 make none in range
too_wide : checked_sum (fraction_of (pos 170141183460469231731687303715884105727)) (fraction_of (pos 1)) ≡ Err (record {})
unfolding checked_sum lowest_terms gcd_of
too_wide = refl
