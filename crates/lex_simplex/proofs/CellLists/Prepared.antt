-- What a pivot on cells is for the tableau that they are read as.
use Rattle.std.proofs.Common.{◌≡◌, ◌↔◌, ℕ, ◌+◌, ◌<◌, length, get_or, set, map, All, Result, Ok, Err, IfOk, List, [], ℤ, pos, sym, ap, ap₂, subst, subst₂, ◌∙◌, arith}
use Rattle.std.proofs.lemmas.List.{get_or_default}
use Rattle.std.proofs.lemmas.Result.{on_err_weaker, on_ok_weaker}
use Rattle.frac128.specs.Range.{IsInRange}
use Rattle.lex_simplex.specs.Cells.{AreCells, prepared_cells, row_in, tableau_in}
use Rattle.frac128.specs.Problem.{ProblemData}
use Rattle.lex_simplex.specs.Equations.{IsTableauOf}
use Rattle.lex_simplex.specs.Steps.{CanExchange, DoneIff, ExchangesFit, IsReducedRow, exchanged_row}
use Rattle.lex_simplex.specs.Pivot.{IsEntering, PivotFits}
use Rattle.lex_simplex.specs.State.{IsWorkable}
use Rattle.lex_simplex.specs.Tableau.{row_of, entry}
use Rattle.lex_simplex.specs.Turn.{pivoted_tableau, pivot_numbers}
use Rattle.lex_simplex.proofs.CellLists.Rows.{entry-cells, row_of-cells, length-cells, table_rows-tableau_in, wide_at}
use Rattle.lex_simplex.proofs.CellLists.Pivots.{ExchangesFit-table, exchanged_row-table, AreCells-exchanged_row, can_exchange, exchanged_row-all_reduced}
use Rattle.lex_simplex.proofs.Pivots.Kept.{pivoted_is}

-- the pivot row's number in the pivot column, and its prepared cells, as code has them
pub record IsPrepared (columns : List ℕ) (rows : List (List ℤ)) (r e : ℕ) (number : ℤ) (room : List ℤ) : Type 0 where
  pub cells : AreCells columns rows
  pub tableau : IsWorkable (tableau_in rows columns)
  pub below : r < length (tableau_in rows columns).rows
  pub entering : IsEntering (tableau_in rows columns) r e
  pub number_is : number ≡ entry (row_of (tableau_in rows columns) r) e
  pub room_is : room ≡ prepared_cells (row_of (tableau_in rows columns) r) e

-- from the cells of the pivot row
pub IsPrepared-from : (columns : List ℕ) (rows : List (List ℤ)) (r e : ℕ) (row : List ℤ) (number : ℤ) (room : List ℤ) → AreCells columns rows
    → IsWorkable (tableau_in rows columns) → r < length (tableau_in rows columns).rows → IsEntering (tableau_in rows columns) r e
    → row ≡ get_or rows (r + 1) [] → number ≡ get_or row (e + 2) number → room ≡ prepared_cells (row_in row) e → IsPrepared columns rows r e number room
IsPrepared-from columns rows r e row number room cells tableau below entering is read ready =
    let row_is : row_in row ≡ row_of (tableau_in rows columns) r = ap row_in is ∙ sym (row_of-cells columns rows r below) in
    let within : e + 2 < length row = let wide = wide_at columns rows (r + 1) row cells (omega (arith, length-cells columns rows cells)) is in
    omega (arith, wide, entering.below) in
    record {
      cells = cells;
      tableau = tableau;
      below = below;
      entering = entering;
      number_is = read ∙ get_or_default row (e + 2) number (pos 0) within ∙ sym (entry-cells row e) ∙ ap (λ x. entry x e) row_is;
      room_is = ready ∙ ap (λ x. prepared_cells x e) row_is;
    }

-- each row can be exchanged
pub IsPrepared-can : (columns : List ℕ) (rows : List (List ℤ)) (r e : ℕ) (number : ℤ) (room : List ℤ) → IsPrepared columns rows r e number room
    → All (CanExchange number (e + 2) room) rows
IsPrepared-can columns rows r e number room ready =
    subst₂ (λ n xs. All (CanExchange n (e + 2) xs) rows) (sym ready.number_is) (sym ready.room_is)
    (can_exchange ready.tableau.problem columns rows r e ready.cells ready.tableau.is_tableau
    (subst (All IsReducedRow) (table_rows-tableau_in columns rows ready.cells) ready.tableau.rows_reduced) ready.below ready.entering.below
    ready.entering.positive)

-- all exchanges fit where the pivot does
IsPrepared-fits : (columns : List ℕ) (rows : List (List ℤ)) (r e : ℕ) (number : ℤ) (room : List ℤ) → IsPrepared columns rows r e number room
    → ExchangesFit number (e + 2) room rows ↔ PivotFits (tableau_in rows columns) r e
IsPrepared-fits columns rows r e number room ready =
    let fits = subst₂ (λ n xs. ExchangesFit n (e + 2) xs rows ↔ All IsInRange (pivot_numbers (tableau_in rows columns) r e)) (sym ready.number_is)
    (sym ready.room_is) (ExchangesFit-table columns rows r e ready.cells ready.below ready.entering.below) in
    (λ h. record { in_range = fits.0 h }, λ h. fits.1 h.in_range)

-- the exchanged rows are the pivot's
IsPrepared-gives : (columns : List ℕ) (rows new : List (List ℤ)) (r e : ℕ) (number : ℤ) (room : List ℤ) → IsPrepared columns rows r e number room
    → new ≡ map (exchanged_row number (e + 2) room) rows → tableau_in new (set columns e r) ≡ pivoted_tableau (tableau_in rows columns) r e
IsPrepared-gives columns rows new r e number room ready is =
    ap (λ xs. tableau_in xs (set columns e r)) (is ∙ ap₂ (λ n xs. map (exchanged_row n (e + 2) xs) rows) ready.number_is ready.room_is)
    ∙ exchanged_row-table columns rows r e ready.cells ready.below ready.entering.below

-- they are rows of cells again
IsPrepared-cells : (columns : List ℕ) (rows new : List (List ℤ)) (r e : ℕ) (number : ℤ) (room : List ℤ) → IsPrepared columns rows r e number room
    → new ≡ map (exchanged_row number (e + 2) room) rows → AreCells (set columns e r) new
IsPrepared-cells columns rows new r e number room ready is =
    subst (AreCells (set columns e r)) (sym (is ∙ ap₂ (λ n xs. map (exchanged_row n (e + 2) xs) rows) ready.number_is ready.room_is))
    (AreCells-exchanged_row columns rows r e ready.cells ready.below ready.entering.below)

-- so what is done to the rows is done to the tableau
pub IsPrepared-done : {A E : Type 0} (result : Result A E) (columns : List ℕ) (rows new : List (List ℤ)) (r e : ℕ) (number : ℤ) (room : List ℤ)
    → IsPrepared columns rows r e number room
    → DoneIff result (ExchangesFit number (e + 2) room rows) new (map (exchanged_row number (e + 2) room) rows)
    → DoneIff result (PivotFits (tableau_in rows columns) r e) (tableau_in new (set columns e r)) (pivoted_tableau (tableau_in rows columns) r e)
IsPrepared-done result columns rows new r e number room ready done =
    let fits = IsPrepared-fits columns rows r e number room ready in
    record {
      ok = on_ok_weaker result fits.0 done.ok;
      too_wide = on_err_weaker result (λ n h. n (fits.1 h)) done.too_wide;
      value_is = on_ok_weaker result (IsPrepared-gives columns rows new r e number room ready) done.value_is;
    }

-- and turns can go on from there
pub IsPrepared-workable : {A E : Type 0} (result : Result A E) (columns : List ℕ) (rows new : List (List ℤ)) (r e : ℕ) (number : ℤ) (room : List ℤ)
    → IsPrepared columns rows r e number room
    → DoneIff result (ExchangesFit number (e + 2) room rows) new (map (exchanged_row number (e + 2) room) rows)
    → IfOk result (λ _. IsWorkable (tableau_in new (set columns e r)))
IsPrepared-workable (Err error) columns rows new r e number room ready done = tt
IsPrepared-workable (Ok a) columns rows new r e number room ready done =
    let is = done.value_is in
    let gives = IsPrepared-gives columns rows new r e number room ready is in
    let cells = IsPrepared-cells columns rows new r e number room ready is in
    let can = IsPrepared-can columns rows r e number room ready in
    let kept : All IsReducedRow new = subst (All IsReducedRow) (sym is) (exchanged_row-all_reduced number (e + 2) room rows can done.ok) in
    let p : ProblemData = ready.tableau.problem in
    record {
      problem = p;
      is_problem = ready.tableau.is_problem;
      is_tableau = subst (IsTableauOf p) (sym gives) (pivoted_is p (tableau_in rows columns) r e ready.tableau.is_tableau ready.below ready.entering);
      rows_reduced = subst (All IsReducedRow) (sym (table_rows-tableau_in (set columns e r) new cells)) kept;
    }
