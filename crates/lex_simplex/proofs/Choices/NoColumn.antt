-- A tableau's row has a pivot column or no positive number; a turn that ends with no point has a row of the second kind.
use Rattle.std.proofs.lemmas.Bool.{cases_lt}
use Rattle.std.proofs.lemmas.Int.{ints}
use Rattle.std.proofs.lemmas.List.{get_or_past}
use Rattle.std.proofs.Common.{◌≡◌, ◌⊎◌, inl, inr, ℕ, ◌<◌, ◌≤◌, length, pos, ◌≤ℤ◌, Ok, None, sym, ◌∙◌, arith}
use Rattle.frac128.specs.Problem.{ProblemData}
use Rattle.lex_simplex.specs.declared.end.End.TheVariants.{Empty}
use Rattle.lex_simplex.specs.Equations.{IsTableRow, IsTableauOf}
use Rattle.lex_simplex.specs.Pivot.{IsLeaving, IsEntering}
use Rattle.lex_simplex.specs.Tableau.{Tableau, row_of, entry}
use Rattle.lex_simplex.specs.Turn.{entering, turn, ended}
use Rattle.lex_simplex.proofs.Choices.Laws.{entering-is}
use Rattle.lex_simplex.proofs.Choices.Scan.{IsLeastSoFar, IsNonePositive, IsEntering-from_least, least_or_none}
use Rattle.lex_simplex.proofs.Runs.OneTurn.{turn_empty_row}
use Rattle.lex_simplex.proofs.Tableaus.Rows.{row_of-fits}

-- a row has a pivot column, or none of its numbers is positive
pub entering_or_none : (p : ProblemData) (t : Tableau) (r : ℕ) → IsTableauOf p t → r < length t.rows
    → ((e : ℕ) × IsEntering t r e) ⊎ ((f : ℕ) → f < length t.columns → entry (row_of t r) f ≤ℤ pos 0)
entering_or_none p t r ok rb = step (least_or_none p t r (length t.columns) ok rb (omega arith))
  where
    step : ((e : ℕ) × IsLeastSoFar t r (length t.columns) e) ⊎ IsNonePositive t r (length t.columns)
        → ((e : ℕ) × IsEntering t r e) ⊎ ((f : ℕ) → f < length t.columns → entry (row_of t r) f ≤ℤ pos 0)
    step (inl s) = inl (s.0, IsEntering-from_least t r s.0 s.1)
    step (inr none) = inr none

-- where there is no pivot column no number of the row is positive
pub no_entering : (p : ProblemData) (t : Tableau) (r : ℕ) → IsTableauOf p t → r < length t.rows → entering t r ≡ None → (f : ℕ)
    → entry (row_of t r) f ≤ℤ pos 0
no_entering p t r ok rb none f = step (entering_or_none p t r ok rb) (cases_lt f (length t.columns))
  where
    fits : IsTableRow p.vars (row_of t r)
    fits = row_of-fits p t r ok rb

    step : ((e : ℕ) × IsEntering t r e) ⊎ ((f : ℕ) → f < length t.columns → entry (row_of t r) f ≤ℤ pos 0) → (f < length t.columns) ⊎ (length t.columns ≤ f)
        → entry (row_of t r) f ≤ℤ pos 0
    step (inl s) c = let found = sym none ∙ entering-is t r s.0 s.1 in absurd (cc found)
    step (inr h) (inl l) = h f l
    step (inr h) (inr l) = let zero = get_or_past (row_of t r).coefs f (pos 0) (omega (arith, ok.one_column_each, fits.one_each)) in
        omega (arith, ints, zero)

-- a turn that ends with no point has a pivot row without a positive number
pub turn_empty : (p : ProblemData) (t : Tableau) → IsTableauOf p t → turn t ≡ ended (Ok Empty)
    → (r : ℕ) × IsLeaving t r × ((f : ℕ) → entry (row_of t r) f ≤ℤ pos 0)
turn_empty p t ok h = let row = turn_empty_row t h in (row.0, row.1, no_entering p t row.0 ok row.1.below row.2)
