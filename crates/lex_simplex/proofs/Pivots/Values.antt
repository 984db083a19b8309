-- A pivot on a row with a negative constant takes the values of the cost and the variables up.
use Rattle.std.proofs.lemmas.List.{length-map}
use Rattle.std.proofs.lemmas.List.Elements.{All-head, All-tail, All-map, All-weaker}
use Rattle.std.proofs.Common.{ℕ, ◌<◌, ◌≤◌, length, map, List, [], ◌∷◌, All, ℤ, pos, ◌+ℤ◌, ◌*ℤ◌, neg_ℤ, ◌<ℤ◌, refl, sym, subst, arith}
use Rattle.integers.specs.Fraction.{Fraction, SameFraction, AreFractions, SameFractions}
use Rattle.integers.specs.Lexicographic.{IsLexPositive, LexLess}
use Rattle.integers.proofs.Laws.{lin}
use Rattle.integers.proofs.LexOrder.{plus_multiple, AreFractions-plus_multiple, LexLess-plus_multiple, LexLess-same_right}
use Rattle.integers.proofs.Ring.{neg, ◌⊖◌, ◌⊕◌, ◌⊗◌, ◌≗◌, ◌✶◌, ◌⇐◌, combine8}
use Rattle.frac128.specs.Problem.{ProblemData}
use Rattle.lex_simplex.specs.Equations.{IsTableRow, IsTableauOf}
use Rattle.lex_simplex.specs.Tableau.{TableRow, Tableau, row_of, entry, ordering_rows, value_of, values}
use Rattle.lex_simplex.specs.Turn.{next_row, pivoted_tableau}
use Rattle.lex_simplex.proofs.Pivots.Rows.{next_row-scaled, next_row-fits}
use Rattle.lex_simplex.proofs.Pivots.Columns.{ordering_rows-pivoted_tableau}
use Rattle.lex_simplex.proofs.Tableaus.Rows.{AreFractions-rows, ordering_rows-fit, row_of-fits}

-- ---- rows

-- a row's value after a pivot is its value plus a multiple of its number in the pivot column
next_row-value : (pivot : TableRow) (e : ℕ) (row : TableRow) → pos 0 <ℤ entry pivot e → pos 0 <ℤ row.den
    → SameFraction (record { num = entry pivot e *ℤ row.constant +ℤ neg_ℤ pivot.constant *ℤ entry row e; den = entry pivot e *ℤ row.den })
    (value_of (next_row pivot e row))
next_row-value pivot e row pa pd =
    let s = next_row-scaled pivot e row pa pd in
    let next : TableRow = next_row pivot e row in
    combine8 (λ a b C d k c nd nk. (a ⊗ k ⊕ neg C ⊗ b) ⊗ nd ≗ nk ⊗ (a ⊗ d) ⇐ nk ✶ (c ⊗ nd ≗ a ⊗ d) ∷ neg nd ✶ (c ⊗ nk ≗ a ⊗ k ⊖ b ⊗ C) ∷ []) refl
    (entry pivot e) (entry row e) pivot.constant row.den row.constant s.0 next.den next.constant s.2 s.3

-- so are the values of rows
next_rows-values : (pivot : TableRow) (e vars : ℕ) (rows : List TableRow) → pos 0 <ℤ entry pivot e → All (IsTableRow vars) rows
    → SameFractions (plus_multiple (neg_ℤ pivot.constant) (entry pivot e) (map value_of rows) (map (λ (row : TableRow). entry row e) rows))
    (map value_of (map (next_row pivot e) rows))
next_rows-values pivot e vars [] pa h = tt
next_rows-values pivot e vars (row ∷ rows) pa h = (
  next_row-value pivot e row pa (All-head (IsTableRow vars) row rows h).den_pos,
  next_rows-values pivot e vars rows pa (All-tail (IsTableRow vars) row rows h),
)

-- a pivot row with a negative constant takes the values of rows up, where the pivot column is positive over them
next_rows-rise : (pivot : TableRow) (e vars : ℕ) (rows : List TableRow) → pos 0 <ℤ entry pivot e → pivot.constant <ℤ pos 0 → IsTableRow vars pivot
    → All (IsTableRow vars) rows → IsLexPositive (map (λ (row : TableRow). entry row e) rows)
    → LexLess (map value_of rows) (map value_of (map (next_row pivot e) rows))
next_rows-rise pivot e vars rows pa pc hp h up =
    let before : List Fraction = map value_of rows in
    let column : List ℤ = map (λ (row : TableRow). entry row e) rows in
    let minus : ℤ = neg_ℤ pivot.constant in
    let fits : All (IsTableRow vars) (map (next_row pivot e) rows) =
    All-map (IsTableRow vars) (next_row pivot e) rows (All-weaker (IsTableRow vars) (λ row. IsTableRow vars (next_row pivot e row))
    (λ row f. next_row-fits vars pivot e row pa hp f) rows h) in
    let fractions = AreFractions-rows vars rows h in
    let few : length column ≤ length before = omega (arith, length-map rows (λ (row : TableRow). entry row e), length-map rows value_of) in
    let rises = LexLess-plus_multiple minus (entry pivot e) before column (omega (arith, lin)) pa fractions few up in
    LexLess-same_right before (plus_multiple minus (entry pivot e) before column) (map value_of (map (next_row pivot e) rows)) fractions
    (AreFractions-plus_multiple minus (entry pivot e) before column pa fractions) (AreFractions-rows vars (map (next_row pivot e) rows) fits) rises
    (next_rows-values pivot e vars rows pa h)

-- ---- tableaus

-- the values of a tableau are fractions
pub AreFractions-values : (p : ProblemData) (t : Tableau) → IsTableauOf p t → AreFractions (values t)
AreFractions-values p t ok = AreFractions-rows p.vars (ordering_rows t) (ordering_rows-fit p t ok)

-- a pivot on a row with a negative constant and a positive number in the column takes the values up
pub values_rise : (p : ProblemData) (t : Tableau) (r e : ℕ) → IsTableauOf p t → r < length t.rows → e < length t.columns → (row_of t r).constant <ℤ pos 0
    → pos 0 <ℤ entry (row_of t r) e → LexLess (values t) (values (pivoted_tableau t r e))
values_rise p t r e ok below inside negative positive =
    let fits = row_of-fits p t r ok below in
    let here : e < p.vars = let n = ok.one_column_each in omega arith in
    subst (λ rows. LexLess (values t) (map value_of rows)) (sym (ordering_rows-pivoted_tableau t r e))
    (next_rows-rise (row_of t r) e p.vars (ordering_rows t) positive negative fits (ordering_rows-fit p t ok) (ok.columns_positive e here))
