-- Where a turn pivots, in words of order alone.
use Rattle.std.specs.Prelude.{ℕ, ◌<◌, ◌≢◌, length, All, pos, ◌≤ℤ◌, ◌<ℤ◌}
use Rattle.frac128.specs.Range.{IsInRange}
use Rattle.integers.specs.Lexicographic.{LexLess}
use Rattle.lex_simplex.specs.Tableau.{Tableau, row_of, entry}
use Rattle.lex_simplex.specs.Turn.{ratios, pivot_numbers}

-- r is the first quantity whose constant is negative
pub record IsLeaving (t : Tableau) (r : ℕ) : Type 0 where
  pub below : r < length t.rows
  pub negative : (row_of t r).constant <ℤ pos 0
  pub first : (i : ℕ) → i < r → pos 0 ≤ℤ (row_of t i).constant

-- e is a column with a positive number in the row r
pub record IsCandidate (t : Tableau) (r e : ℕ) : Type 0 where
  pub below : e < length t.columns
  pub positive : pos 0 <ℤ entry (row_of t r) e

-- e is the column with a positive number in the row r whose ratios come before those of each other such column
pub record IsEntering (t : Tableau) (r e : ℕ) : Type 0 where
  pub below : e < length t.columns
  pub positive : pos 0 <ℤ entry (row_of t r) e
  pub least : (f : ℕ) → f < length t.columns → f ≢ e → pos 0 <ℤ entry (row_of t r) f
      → LexLess (ratios t r e) (ratios t r f)

-- each product and difference that the pivot forms, before rows are divided, is in the range
pub record PivotFits (t : Tableau) (r e : ℕ) : Type 0 where
  pub in_range : All IsInRange (pivot_numbers t r e)
