-- A walk over the columns.
use Rattle.std.proofs.Common.{◌≡◌, ◌↔◌, ◌⊎◌, inl, inr, ℕ, ◌+◌, ◌<◌, get_or, List, ℤ, pos, ◌*ℤ◌, ◌≤ℤ◌, Bool, sym, subst, arith}
use Rattle.std.specs.Prelude.{IsTrue}
use Rattle.std.proofs.lemmas.Bool.{cases_order}
use Rattle.integers.specs.Vector.{int_sum}
use Rattle.frac128.specs.Problem.{ProblemData}
use Rattle.cert_check.specs.Entries.{products_on, coefficient}
use Rattle.cert_check.specs.Columns.{IsColumnBelow, ColumnFits, PassBefore}

-- what holds below a number and at it holds below the next
pub below-next : (P : ℕ → Type 0) (j : ℕ) → ((i : ℕ) → i < j → P i) → P j → (i : ℕ) → i < j + 1 → P i
below-next P j before here i below = step (cases_order i j)
  where
    step : (i ≡ j) ⊎ ((i < j) ⊎ (j < i)) → P i
    step (inl same) = subst P (sym same) here
    step (inr (inl less)) = before i less
    step (inr (inr more)) = absurd (omega arith)

-- one more column
pub PassBefore-next : (p : ProblemData) (d : ℤ) (on : List (ℕ × ℤ)) (j : ℕ) → PassBefore p d on j → ColumnFits p d on j → IsColumnBelow p d on j
    → PassBefore p d on (j + 1)
PassBefore-next p d on j before fits below = record {
  below = below-next (IsColumnBelow p d on) j before.below below;
  fit = below-next (ColumnFits p d on) j before.fit fits;
}

-- a column's coefficient compared with d times its cost
pub IsColumnBelow-compared : (p : ProblemData) (d : ℤ) (on : List (ℕ × ℤ)) (j : ℕ) (sum most cost : ℤ) (answer : Bool)
    → sum ≡ int_sum (products_on (coefficient j) p.rows on) → most ≡ d *ℤ cost → cost ≡ get_or p.cost j (pos 0) → IsTrue answer ↔ sum ≤ℤ most
    → IsTrue answer ↔ IsColumnBelow p d on j
IsColumnBelow-compared p d on j sum most cost answer sum_is most_is cost_is compared =
    let with_sum = subst (λ z. IsTrue answer ↔ z ≤ℤ most) sum_is compared in
    let with_most = subst (λ z. IsTrue answer ↔ int_sum (products_on (coefficient j) p.rows on) ≤ℤ z) most_is with_sum in
    subst (λ z. IsTrue answer ↔ int_sum (products_on (coefficient j) p.rows on) ≤ℤ (d *ℤ z)) cost_is with_most
