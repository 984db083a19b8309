-- A pivot keeps the columns lexicographically positive over the rows that order them.
use lib.IntN.{*ℤ_comm}
use Rattle.std.proofs.lemmas.List.{length-map, length-set, take-map}
use Rattle.std.proofs.lemmas.List.Elements.{All-head, All-tail}
use Rattle.std.proofs.Common.{◌≡◌, ◌≢◌, ℕ, ◌<◌, length, take, map, List, [], ◌∷◌, ℤ, pos, ◌<ℤ◌, refl, sym, ap, ◌∙◌, arith}
use Rattle.std.specs.Prelude.{All}
use Rattle.std.specs.List.{AllZip}
use Rattle.std.proofs.lemmas.Int.{by_lt_z}
use Rattle.integers.specs.Fraction.{over}
use Rattle.integers.specs.Lexicographic.{IsLexPositive, LexLess}
use Rattle.integers.specs.Vector.{scale, row_step}
use Rattle.integers.proofs.Lexicographic.{IsLexPositive-scale, IsLexPositive-row_step, IsLexPositive-multiples, IsMultiple}
use Rattle.integers.proofs.LexOrder.{LexLess-over}
use Rattle.integers.proofs.Ring.{◌⊖◌, ◌⊗◌, ◌≗◌, ring4}
use Rattle.lex_simplex.specs.Equations.{IsTableRow}
use Rattle.lex_simplex.specs.Tableau.{TableRow, Tableau, ordering_rows, row_of, entry}
use Rattle.lex_simplex.specs.Turn.{next_row, pivoted_tableau}
use Rattle.lex_simplex.proofs.Pivots.Rows.{next_row-entries}
use Rattle.lex_simplex.proofs.Tableaus.Rows.{column_in}

-- ---- columns over a list of rows

-- after the pivot the column of the pivot has fractions of its numbers times the pivot row's denominator
next_column-same : (vars : ℕ) (pivot : TableRow) (e : ℕ) → pos 0 <ℤ entry pivot e → e < vars → (rows : List TableRow) → All (IsTableRow vars) rows
    → AllZip IsMultiple (scale pivot.den (column_in rows e)) (column_in (map (next_row pivot e) rows) e)
next_column-same vars pivot e pa below [] fit = tt
next_column-same vars pivot e pa below (row ∷ rows) fit =
    let fits = All-head (IsTableRow vars) row rows fit in
    let s = next_row-entries pivot e row pa fits.den_pos (omega (arith, fits.one_each)) in
    ((s.0, s.1, s.3 ∙ *ℤ_comm (entry row e) pivot.den), next_column-same vars pivot e pa below rows (All-tail (IsTableRow vars) row rows fit))

-- each other column has fractions of its row step with the column of the pivot
next_column-other : (vars : ℕ) (pivot : TableRow) (e j : ℕ) → pos 0 <ℤ entry pivot e → e < vars → j ≢ e → (rows : List TableRow)
    → All (IsTableRow vars) rows → AllZip IsMultiple (row_step (entry pivot e) (entry pivot j) (column_in rows j) (column_in rows e))
    (column_in (map (next_row pivot e) rows) j)
next_column-other vars pivot e j pa below apart [] fit = tt
next_column-other vars pivot e j pa below apart (row ∷ rows) fit =
    let fits = All-head (IsTableRow vars) row rows fit in
    let s = next_row-entries pivot e row pa fits.den_pos (omega (arith, fits.one_each)) in (
      (s.0, s.1, s.2 j apart ∙ ring4 (λ a x b p. a ⊗ x ⊖ b ⊗ p ≗ a ⊗ x ⊖ p ⊗ b) refl (entry pivot e) (entry row j) (entry row e) (entry pivot j)),
      next_column-other vars pivot e j pa below apart rows (All-tail (IsTableRow vars) row rows fit),
    )

-- the column of the pivot stays positive
pub next_column-same_positive : (vars : ℕ) (pivot : TableRow) (e : ℕ) (rows : List TableRow) → pos 0 <ℤ entry pivot e → pos 0 <ℤ pivot.den → e < vars
    → All (IsTableRow vars) rows → IsLexPositive (column_in rows e) → IsLexPositive (column_in (map (next_row pivot e) rows) e)
next_column-same_positive vars pivot e rows pa pd below fit h =
    IsLexPositive-multiples (scale pivot.den (column_in rows e)) (column_in (map (next_row pivot e) rows) e)
    (next_column-same vars pivot e pa below rows fit) ((IsLexPositive-scale pivot.den (column_in rows e) pd).0 h)

-- another column stays positive where its ratios come after those of the pivot's column or where the pivot row has no positive number in it
pub next_column-other_positive : (vars : ℕ) (pivot : TableRow) (e j : ℕ) (rows : List TableRow) → pos 0 <ℤ entry pivot e → e < vars → j ≢ e
    → All (IsTableRow vars) rows → IsLexPositive (column_in rows e) → IsLexPositive (column_in rows j)
    → (pos 0 <ℤ entry pivot j → LexLess (over (column_in rows e) (entry pivot e)) (over (column_in rows j) (entry pivot j)))
    → IsLexPositive (column_in (map (next_row pivot e) rows) j)
next_column-other_positive vars pivot e j rows pa below apart fit he hj least =
    let step : List ℤ = row_step (entry pivot e) (entry pivot j) (column_in rows j) (column_in rows e) in
    let wide : length (column_in rows e) ≡ length (column_in rows j) = length-map rows (λ (row : TableRow). entry row e)
    ∙ sym (length-map rows (λ (row : TableRow). entry row j)) in
    let positive : IsLexPositive step = by_lt_z (pos 0) (entry pivot j)
    (λ p. (LexLess-over (column_in rows e) (column_in rows j) (entry pivot e) (entry pivot j) wide).0 (least p))
    (λ p. IsLexPositive-row_step (entry pivot e) (entry pivot j) (column_in rows j) (column_in rows e) pa p hj he) in
    IsLexPositive-multiples step (column_in (map (next_row pivot e) rows) j) (next_column-other vars pivot e j pa below apart rows fit) positive

-- ---- of the tableau

-- the rows that order columns are the old ones after the pivot
pub ordering_rows-pivoted_tableau : (t : Tableau) (r e : ℕ) → ordering_rows (pivoted_tableau t r e) ≡ map (next_row (row_of t r) e) (ordering_rows t)
ordering_rows-pivoted_tableau t r e = ap (λ rows. next_row (row_of t r) e t.cost ∷ rows)
    (ap (λ n. take n (map (next_row (row_of t r) e) t.rows)) (length-set t.columns e r) ∙ take-map (next_row (row_of t r) e) (length t.columns) t.rows)
