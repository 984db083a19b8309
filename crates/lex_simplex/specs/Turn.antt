-- A turn of the simplex method with the lexicographic rule, as a function on tableaus, and runs of turns.
use Rattle.std.specs.Prelude.{◌≡◌, ℕ, zero, suc, Bool, true, false, not, ◌&&◌, ◌||◌, nat_eq, int_lt, List, [], ◌∷◌, ◌++◌, map, set, length, Option, Some, None, Result, Ok, Err, ℤ, pos, ◌-ℤ◌, ◌*ℤ◌, int_div, unsigned_abs, position, find, flat_map}
use Rattle.std.specs.List.{list_all}
use Rattle.std.specs.Ordering.{int_cmp}
use Rattle.std.specs.declared.cmp.Ordering.TheVariants.{Less, Equal, Greater}
use Rattle.integers.specs.Counting.{numbers_from}
use Rattle.integers.specs.Divisibility.{quotients, common_divisor, divisor_of_all}
use Rattle.integers.specs.Fraction.{Fraction, over}
use Rattle.integers.specs.Vector.{scale, row_step}
use Rattle.lex_simplex.specs.Tableau.{TableRow, Tableau, start, row_of, entry, column}
use Rattle.lex_simplex.specs.declared.end.End.{End}
use Rattle.lex_simplex.specs.declared.end.End.TheVariants.{Optimal, Empty}
use Rattle.lex_simplex.specs.declared.end.PivotFault.{PivotFault}
use Rattle.lex_simplex.specs.declared.end.PivotFault.TheVariants.{TooWide}
use Rattle.frac128.specs.Problem.{ProblemData}
use Rattle.frac128.specs.Range.{is_in_range}

-- ---- where a turn pivots

-- the pivot row: the first quantity whose constant is negative
abbrev pub leaving : Tableau → Option ℕ
leaving t = position (λ (row : TableRow). int_lt row.constant (pos 0)) t.rows

-- the numbers of the column e over that of the pivot row r
abbrev pub ratios : Tableau → ℕ → ℕ → List Fraction
ratios t r e = over (column t e) (entry (row_of t r) e)

-- at the first place where the numbers differ the first list has the lesser one, or it ends before the second
abbrev pub comes_before : List Fraction → List Fraction → Bool
comes_before [] [] = false
comes_before [] (g ∷ gs) = true
comes_before (f ∷ fs) [] = false
comes_before (f ∷ fs) (g ∷ gs) = elim (int_cmp (f.num *ℤ g.den) (g.num *ℤ f.den))
    [ Less ↦ true | Equal ↦ comes_before fs gs | Greater ↦ false ]

-- the column e has a positive number in the row r, and its ratios come before those of each other such column
abbrev pub is_entering : Tableau → ℕ → ℕ → Bool
is_entering t r e = int_lt (pos 0) (entry (row_of t r) e) && list_all
    (λ f. nat_eq f e || not (int_lt (pos 0) (entry (row_of t r) f)) || comes_before (ratios t r e) (ratios t r f))
    (numbers_from 0 (length t.columns))

-- the pivot column of the row r; there is none where no number of the row is positive
abbrev pub entering : Tableau → ℕ → Option ℕ
entering t r = find (is_entering t r) (numbers_from 0 (length t.columns))

-- ---- what a pivot makes of a row

-- the greatest common divisor of the pivot row's number in the pivot column and another row's
abbrev pub shared_divisor : ℤ → ℤ → ℤ
shared_divisor a b = pos (common_divisor (unsigned_abs a) (unsigned_abs b))

-- p times the row less q times the pivot row, whose quantity takes over the column e
abbrev pub stepped_row_by : ℤ → ℤ → TableRow → ℕ → TableRow → TableRow
stepped_row_by p q pivot e row = record {
  den = p *ℤ row.den;
  constant = p *ℤ row.constant -ℤ q *ℤ pivot.constant;
  coefs = set (row_step p q row.coefs pivot.coefs) e (q *ℤ pivot.den);
}

-- the products and differences that this forms; those of the column e are its one product alone
abbrev pub numbers_by : ℤ → ℤ → TableRow → ℕ → TableRow → List ℤ
numbers_by p q pivot e row =
    let xs = set row.coefs e (pos 0) in
    let ys = set pivot.coefs e (pos 0) in
    (p *ℤ row.den) ∷ (p *ℤ row.constant) ∷ (q *ℤ pivot.constant) ∷ (p *ℤ row.constant -ℤ q *ℤ pivot.constant)
    ∷ (q *ℤ pivot.den) ∷ (scale p xs ++ scale q ys ++ row_step p q xs ys)

-- the multiple of a row and the multiple of the pivot row that a pivot takes
abbrev pub row_factor : TableRow → ℕ → TableRow → ℤ
row_factor pivot e row = int_div (entry pivot e) (shared_divisor (entry pivot e) (entry row e))

abbrev pub pivot_factor : TableRow → ℕ → TableRow → ℤ
pivot_factor pivot e row = int_div (entry row e) (shared_divisor (entry pivot e) (entry row e))

-- the row after the pivot, before it is divided
abbrev pub stepped_row : TableRow → ℕ → TableRow → TableRow
stepped_row pivot e row = stepped_row_by (row_factor pivot e row) (pivot_factor pivot e row) pivot e row

-- the products and differences that this forms
abbrev pub step_numbers : TableRow → ℕ → TableRow → List ℤ
step_numbers pivot e row = numbers_by (row_factor pivot e row) (pivot_factor pivot e row) pivot e row

-- each number of a row divided by k
abbrev pub divided_row : ℤ → TableRow → TableRow
divided_row k row = record {
  den = int_div row.den k;
  constant = int_div row.constant k;
  coefs =
      quotients row.coefs k;
}

-- each number of a row divided by the greatest common divisor of all
abbrev pub reduced_row : TableRow → TableRow
reduced_row row = divided_row (pos (divisor_of_all (row.den ∷ row.constant ∷ row.coefs))) row

-- the row after the pivot
abbrev pub next_row : TableRow → ℕ → TableRow → TableRow
next_row pivot e row = reduced_row (stepped_row pivot e row)

-- the tableau after the pivot on the row r and the column e
abbrev pub pivoted_tableau : Tableau → ℕ → ℕ → Tableau
pivoted_tableau t r e = record {
  cost = next_row (row_of t r) e t.cost;
  rows = map (next_row (row_of t r) e) t.rows;
  columns = set t.columns e r;
}

-- each product and difference that the pivot forms, before rows are divided
abbrev pub pivot_numbers : Tableau → ℕ → ℕ → List ℤ
pivot_numbers t r e = flat_map (step_numbers (row_of t r) e) (t.cost ∷ t.rows)

-- ---- turns

-- what a turn gives: the next tableau, or the end of the run
pub data TurnResult : Type 0 where
  next : Tableau → TurnResult
  ended : Result End PivotFault → TurnResult

abbrev pub turn_at : Tableau → ℕ → Option ℕ → TurnResult
turn_at t r None = ended (Ok Empty)
turn_at t r (Some e) = elim (list_all is_in_range (pivot_numbers t r e))
    [ true ↦ next (pivoted_tableau t r e) | false ↦ ended (Err TooWide) ]

abbrev pub turn_in : Tableau → Option ℕ → TurnResult
turn_in t None = ended (Ok Optimal)
turn_in t (Some r) = turn_at t r (entering t r)

-- no negative constant ends with the optimum, a pivot row with no positive number with no point; else a pivot, where
-- it stays in range
abbrev pub turn : Tableau → TurnResult
turn t = turn_in t (leaving t)

-- n turns lead from the first tableau to the second
abbrev pub Reaches : ℕ → Tableau → Tableau → Type 0
Reaches zero t s = t ≡ s
Reaches (suc n) t s = (u : Tableau) × (turn t ≡ next u) × Reaches n u s

-- n turns are made from the tableau on, and the one after them ends so
pub record IsRunFrom (t : Tableau) (end : Result End PivotFault) (n : ℕ) : Type 0 where
  pub last : Tableau
  pub turns : Reaches n t last
  pub ends : turn last ≡ ended end

-- the run of a problem: how it ends and how many pivots it completes
abbrev pub IsRun : ProblemData → Result End PivotFault → ℕ → Type 0
IsRun p end n = IsRunFrom (start p) end n
