-- What a pivot makes of a tableau of a problem is one again.
use Rattle.std.proofs.lemmas.Bool.{cases_eq}
use Rattle.std.proofs.lemmas.List.{length-map, length-set, take-map}
use Rattle.std.proofs.lemmas.List.Elements.{All-map, All-set, All-take, All-weaker}
use Rattle.std.proofs.Common.{◌≡◌, ◌≢◌, inl, inr, ℕ, ◌<◌, length, get_or, take, map, List, ℤ, pos, ◌<ℤ◌, sym, subst, ◌∙◌, arith}
use Rattle.std.specs.Prelude.{All}
use Rattle.integers.specs.Lexicographic.{IsLexPositive}
use Rattle.integers.specs.Vector.{dot}
use Rattle.frac128.specs.Problem.{ProblemData}
use Rattle.lex_simplex.specs.Equations.{quantities, nonbasic, Holds, AllHold, IsTableRow, IsTableauOf}
use Rattle.lex_simplex.specs.Pivot.{IsEntering}
use Rattle.lex_simplex.specs.Tableau.{TableRow, Tableau, ordering_rows, row_of, entry, column}
use Rattle.lex_simplex.specs.Turn.{next_row, pivoted_tableau}
use Rattle.lex_simplex.proofs.Pivots.Columns.{next_column-same_positive, next_column-other_positive, ordering_rows-pivoted_tableau}
use Rattle.lex_simplex.proofs.Pivots.Equations.{next_row-holds, next_rows-hold}
use Rattle.lex_simplex.proofs.Pivots.Independence.{next_rows-independent}
use Rattle.lex_simplex.proofs.Pivots.Rows.{next_row-fits}
use Rattle.lex_simplex.proofs.Tableaus.Rows.{column_in, nonbasic-set, ordering_rows-fit, row_of-fits, row_of-holds}

-- the columns after the pivot are lexicographically positive
pivoted_tableau-column_positive : (p : ProblemData) (t : Tableau) (r e : ℕ) → IsTableauOf p t → r < length t.rows → IsEntering t r e → (j : ℕ) → j < p.vars
    → IsLexPositive (column (pivoted_tableau t r e) j)
pivoted_tableau-column_positive p t r e is in_rows enters j below =
    subst (λ rows. IsLexPositive (column_in rows j)) (sym (ordering_rows-pivoted_tableau t r e))
    (elim (cases_eq j e) [
      | inl same ↦ subst (λ i. IsLexPositive (column_in (map (next_row (row_of t r) e) (ordering_rows t)) i))
          (sym same) at_e
      | inr apart ↦ at_other apart
    ])
  where
    e_below : e < p.vars
    e_below = let l = enters.below in omega (arith, is.one_column_each)

    fit : All (IsTableRow p.vars) (ordering_rows t)
    fit = ordering_rows-fit p t is

    at_e : IsLexPositive (column_in (map (next_row (row_of t r) e) (ordering_rows t)) e)
    at_e = next_column-same_positive p.vars (row_of t r) e (ordering_rows t) enters.positive (row_of-fits p t r is in_rows).den_pos e_below fit
        (is.columns_positive e e_below)

    at_other : j ≢ e → IsLexPositive (column_in (map (next_row (row_of t r) e) (ordering_rows t)) j)
    at_other apart = next_column-other_positive p.vars (row_of t r) e j (ordering_rows t) enters.positive e_below apart fit (is.columns_positive e e_below)
        (is.columns_positive j below) (λ q. enters.least j (omega (arith, is.one_column_each)) apart q)

-- a pivot on a row and on the column that enters for it keeps a tableau of the problem
pub pivoted_is : (p : ProblemData) (t : Tableau) (r e : ℕ) → IsTableauOf p t → r < length t.rows → IsEntering t r e → IsTableauOf p (pivoted_tableau t r e)
pivoted_is p t r e is in_rows enters =
    let pivot : TableRow = row_of t r in
    let positive : pos 0 <ℤ entry pivot e = enters.positive in
    let fits : IsTableRow p.vars pivot = row_of-fits p t r is in_rows in
    let e_below : e < p.vars = omega (arith, is.one_column_each, enters.below) in
    let in_us : (x : List ℤ) (n : ℤ) → e < length (nonbasic t.columns (quantities p x n)) =
    λ x n. omega (arith, length-map t.columns (λ c. get_or (quantities p x n) c (pos 0)), enters.below) in
    record {
      one_column_each = length-set t.columns e r ∙ is.one_column_each;
      one_row_each = length-map t.rows (next_row pivot e) ∙ is.one_row_each;
      columns_below = subst (λ n. All (λ c. c < n) (pivoted_tableau t r e).columns) (sym (length-map t.rows (next_row pivot e)))
          (All-set (λ c. c < length t.rows) t.columns e r in_rows is.columns_below);
      cost_fits = next_row-fits p.vars pivot e t.cost positive fits is.cost_fits;
      rows_fit = All-map (IsTableRow p.vars) (next_row pivot e) t.rows
          (All-weaker (IsTableRow p.vars) (λ row. IsTableRow p.vars (next_row pivot e row))
          (λ row h. next_row-fits p.vars pivot e row positive fits h) t.rows is.rows_fit);
      cost_holds = λ x n wide. subst (λ us. Holds (dot p.cost x) us n (next_row pivot e t.cost)) (sym (nonbasic-set t.columns (quantities p x n) e r))
          (next_row-holds pivot e t.cost (nonbasic t.columns (quantities p x n)) (dot p.cost x)
          (get_or (quantities p x n) r (pos 0)) n positive is.cost_fits.den_pos (omega (arith, is.cost_fits.one_each)) (in_us x n)
          (row_of-holds p t r is in_rows x n wide) (is.cost_holds x n wide));
      rows_hold = λ x n wide. subst (λ us. AllHold (quantities p x n) us n (map (next_row pivot e) t.rows))
          (sym (nonbasic-set t.columns (quantities p x n) e r))
          (next_rows-hold p.vars pivot e (nonbasic t.columns (quantities p x n)) (get_or (quantities p x n) r (pos 0)) n positive e_below (in_us x n)
          (row_of-holds p t r is in_rows x n wide) (quantities p x n) t.rows is.rows_fit (is.rows_hold x n wide));
      independent = λ d wide zero_each. next_rows-independent p.vars pivot e (take p.vars t.rows) positive fits.den_pos e_below
          (All-take (IsTableRow p.vars) p.vars t.rows is.rows_fit) is.independent d wide
          (subst (λ rows. All (λ (row : TableRow). dot row.coefs d ≡ pos 0) rows) (take-map (next_row pivot e) p.vars t.rows) zero_each);
      columns_positive = λ j below. pivoted_tableau-column_positive p t r e is in_rows enters j below;
    }
