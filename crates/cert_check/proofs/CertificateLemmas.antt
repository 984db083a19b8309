-- The coefficients and the bound of a combination as sums over the entries.
use Rattle.std.proofs.Common.{◌≡◌, ℕ, get_or, List, [], ◌∷◌, ℤ, pos, ◌+ℤ◌, ◌*ℤ◌, refl, sym, ap, ◌∙◌}
use Rattle.integers.specs.Vector.{dot, int_sum, column_of}
use Rattle.frac128.specs.Problem.{ProblemData, row_at, multipliers, combination}
use Rattle.frac128.specs.declared.problem.Row.{Row}
use Rattle.frac128.proofs.ProblemLaws.{coefs_on, bounds_on}
use Rattle.frac128.proofs.Combination.{get_or-combination}
use Rattle.cert_check.specs.Entries.{products_on, coefficient, bound}

-- a column of the rows against the multipliers
column_is : (rows : List Row) (on : List (ℕ × ℤ)) (j : ℕ)
    → int_sum (products_on (coefficient j) rows on) ≡ dot (multipliers on) (column_of j (coefs_on rows on))
column_is rows [] j = refl
column_is rows (e ∷ on) j = ap (λ z. e.1 *ℤ get_or (row_at rows e.0).coefs j (pos 0) +ℤ z) (column_is rows on j)

-- a coefficient
pub coefficient_is : (p : ProblemData) (on : List (ℕ × ℤ)) (j : ℕ) → int_sum (products_on (coefficient j) p.rows on) ≡ get_or (combination p on).coefs j (pos 0)
coefficient_is p on j = column_is p.rows on j ∙ sym (get_or-combination p on j)

-- the bounds of the rows against the multipliers
bounds_are : (rows : List Row) (on : List (ℕ × ℤ)) → int_sum (products_on bound rows on) ≡ dot (multipliers on) (bounds_on rows on)
bounds_are rows [] = refl
bounds_are rows (e ∷ on) = ap (λ z. e.1 *ℤ (row_at rows e.0).bound +ℤ z) (bounds_are rows on)

-- the bound
pub bound_is : (p : ProblemData) (on : List (ℕ × ℤ)) → int_sum (products_on bound p.rows on) ≡ (combination p on).bound
bound_is p on = bounds_are p.rows on
