-- The columns of a combination of rows, against d times the costs.
use Rattle.std.specs.Prelude.{ℕ, ◌<◌, List, ℤ, pos, ◌*ℤ◌, ◌≤ℤ◌, All, Option, Some, None, Result, Ok, Err, get_or}
use Rattle.integers.specs.Vector.{int_sum}
use Rattle.frac128.specs.Problem.{ProblemData}
use Rattle.frac128.specs.Range.{IsInRange}
use Rattle.frac128.specs.declared.number.TooWide.{TooWide}
use Rattle.cert_check.specs.Entries.{products_on, added_in_turn, coefficient}

-- the column's coefficient is at most d times its cost
abbrev pub IsColumnBelow : ProblemData → ℤ → List (ℕ × ℤ) → ℕ → Type 0
IsColumnBelow p d on j = int_sum (products_on (coefficient j) p.rows on) ≤ℤ (d *ℤ get_or p.cost j (pos 0))

-- what is formed for it is in range
pub record ColumnFits (p : ProblemData) (d : ℤ) (on : List (ℕ × ℤ)) (j : ℕ) : Type 0 where
  pub sums : All IsInRange (added_in_turn (pos 0) (products_on (coefficient j) p.rows on))
  pub most : IsInRange (d *ℤ get_or p.cost j (pos 0))

-- each column before j fits and is below
pub record PassBefore (p : ProblemData) (d : ℤ) (on : List (ℕ × ℤ)) (j : ℕ) : Type 0 where
  pub below : (i : ℕ) → i < j → IsColumnBelow p d on i
  pub fit : (i : ℕ) → i < j → ColumnFits p d on i

-- the column at j is the first that fails
pub record IsFailingColumn (p : ProblemData) (d : ℤ) (on : List (ℕ × ℤ)) (j : ℕ) : Type 0 where
  pub column : j < p.vars
  pub before : PassBefore p d on j
  pub fits : ColumnFits p d on j
  pub fails : ¬ IsColumnBelow p d on j

-- the column at j is the first that doesn't fit
pub record IsWideColumn (p : ProblemData) (d : ℤ) (on : List (ℕ × ℤ)) (j : ℕ) : Type 0 where
  pub column : j < p.vars
  pub before : PassBefore p d on j
  pub wide : ¬ ColumnFits p d on j

-- what a walk over the columns answers
abbrev pub IsColumnAnswer : ProblemData → ℤ → List (ℕ × ℤ) → Result (Option ℕ) TooWide → Type 0
IsColumnAnswer p d on (Ok None) = PassBefore p d on p.vars
IsColumnAnswer p d on (Ok (Some j)) = IsFailingColumn p d on j
IsColumnAnswer p d on (Err wide) = (j : ℕ) × IsWideColumn p d on j
