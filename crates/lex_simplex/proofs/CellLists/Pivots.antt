-- The pivot on a tableau's cells is the pivot on the tableau.
use Rattle.std.proofs.lemmas.List.{length-drop, length-map, length-set}
use Rattle.std.proofs.lemmas.List.Elements.{All-nil, All-cons, All-head, All-tail, All-map}
use Rattle.std.proofs.Common.{◌≡◌, ◌↔◌, ℕ, ◌+◌, ◌<◌, length, get_or, map, set, drop, All, List, [], ◌∷◌, ℤ, pos, neg_ℤ, ◌<ℤ◌, refl, sym, ap, ap₂, subst, ◌∙◌, arith}
use Rattle.std.specs.Prelude.{flat_map}
use Rattle.integers.proofs.Lists.{All-get_or_map, All-parts}
use Rattle.frac128.specs.Problem.{ProblemData}
use Rattle.frac128.specs.Range.{IsInRange}
use Rattle.lex_simplex.specs.Cells.{AreCells, HaveRoom, prepared_cells, row_in, tableau_in}
use Rattle.lex_simplex.specs.Steps.{CanExchange, ExchangesFit, IsReducedRow, exchanged_row}
use Rattle.lex_simplex.specs.Equations.{IsTableRow, IsTableauOf}
use Rattle.lex_simplex.specs.Tableau.{TableRow, entry, row_of}
use Rattle.lex_simplex.specs.Turn.{next_row, pivot_numbers, pivoted_tableau, step_numbers}
use Rattle.lex_simplex.proofs.CellLists.Rows.{length-cells, row_of-cells, wide_at}
use Rattle.lex_simplex.proofs.CellLists.Exchanges.{ExchangeFits-row, exchanged_row-row}
use Rattle.lex_simplex.proofs.CellLists.Exchange.{exchanged_row-reduced, length-exchanged_row}

-- ---- a list of rows

-- each row has two cells and one for each number of the pivot row
abbrev AreWide : TableRow → List (List ℤ) → Type 0
AreWide pivot rows = All (λ (row : List ℤ). length row ≡ length pivot.coefs + 2) rows

-- the products and differences of the rows are those of their cells
ExchangesFit-rows : (pivot : TableRow) (e : ℕ) (rows : List (List ℤ)) → AreWide pivot rows → e < length pivot.coefs
    → ExchangesFit (entry pivot e) (e + 2) (prepared_cells pivot e) rows ↔ All IsInRange (flat_map (step_numbers pivot e) (map row_in rows))
ExchangesFit-rows pivot e [] wide h = (λ f. All-nil IsInRange, λ f. tt)
ExchangesFit-rows pivot e (row ∷ rows) wide h =
    let same : List ℤ → Type 0 = λ row. length row ≡ length pivot.coefs + 2 in
    let first = ExchangeFits-row pivot e row (All-head same row rows wide) h in
    let rest = ExchangesFit-rows pivot e rows (All-tail same row rows wide) h in
    let parts = All-parts IsInRange (step_numbers pivot e (row_in row)) (flat_map (step_numbers pivot e) (map row_in rows)) in
    (λ f. parts.1 (first.0 f.0, rest.0 f.1), λ f. let both = parts.0 f in (first.1 both.0, rest.1 both.1))

-- the rows after the pivot
exchanged_row-rows : (pivot : TableRow) (e : ℕ) (rows : List (List ℤ)) → AreWide pivot rows → e < length pivot.coefs
    → map row_in (map (exchanged_row (entry pivot e) (e + 2) (prepared_cells pivot e)) rows) ≡ map (next_row pivot e) (map row_in rows)
exchanged_row-rows pivot e [] wide h = refl
exchanged_row-rows pivot e (row ∷ rows) wide h =
    let same : List ℤ → Type 0 = λ row. length row ≡ length pivot.coefs + 2 in
    ap₂ (λ x xs. x ∷ xs) (exchanged_row-row pivot e row (All-head same row rows wide) h) (exchanged_row-rows pivot e rows (All-tail same row rows wide) h)

-- ---- the tableau

-- the pivot row has a number for each column
pivot_width : (columns : List ℕ) (rows : List (List ℤ)) (r : ℕ) → AreCells columns rows → r < length (tableau_in rows columns).rows
    → length (row_of (tableau_in rows columns) r).coefs ≡ length columns
pivot_width columns rows r cells h =
    let below : r + 1 < length rows = omega (arith, length-cells columns rows cells) in
    ap (λ (row : TableRow). length row.coefs) (row_of-cells columns rows r h)
    ∙ omega (arith, length-drop 2 (get_or rows (r + 1) []), cells.wide (r + 1) [] below)

-- so each row has two cells more than it
wide_as_pivot : (columns : List ℕ) (rows : List (List ℤ)) (r : ℕ) → AreCells columns rows → r < length (tableau_in rows columns).rows
    → AreWide (row_of (tableau_in rows columns) r) rows
wide_as_pivot columns rows r cells h = subst (λ n. All (λ (row : List ℤ). length row ≡ n + 2) rows) (sym (pivot_width columns rows r cells h)) cells.wide

-- the products and differences of a pivot are those of the cells
pub ExchangesFit-table : (columns : List ℕ) (rows : List (List ℤ)) (r e : ℕ) → AreCells columns rows → r < length (tableau_in rows columns).rows
    → e < length columns → ExchangesFit (entry (row_of (tableau_in rows columns) r) e) (e + 2) (prepared_cells (row_of (tableau_in rows columns) r) e) rows
    ↔ All IsInRange (pivot_numbers (tableau_in rows columns) r e)
ExchangesFit-table columns [] r e cells h k = absurd (omega (arith, cells.some))
ExchangesFit-table columns (cost ∷ rows) r e cells h k =
    ExchangesFit-rows (row_of (tableau_in (cost ∷ rows) columns) r) e (cost ∷ rows) (wide_as_pivot columns (cost ∷ rows) r cells h)
    (omega (arith, pivot_width columns (cost ∷ rows) r cells h))

-- the tableau after the pivot
pub exchanged_row-table : (columns : List ℕ) (rows : List (List ℤ)) (r e : ℕ) → AreCells columns rows → r < length (tableau_in rows columns).rows
    → e < length columns → tableau_in (map (exchanged_row (entry (row_of (tableau_in rows columns) r) e) (e + 2)
    (prepared_cells (row_of (tableau_in rows columns) r) e)) rows) (set columns e r) ≡ pivoted_tableau (tableau_in rows columns) r e
exchanged_row-table columns [] r e cells h k = absurd (omega (arith, cells.some))
exchanged_row-table columns (cost ∷ rows) r e cells h k =
    let pivot : TableRow = row_of (tableau_in (cost ∷ rows) columns) r in
    let same : List ℤ → Type 0 = λ row. length row ≡ length pivot.coefs + 2 in
    let wide : AreWide pivot (cost ∷ rows) = wide_as_pivot columns (cost ∷ rows) r cells h in
    let below : e < length pivot.coefs = omega (arith, pivot_width columns (cost ∷ rows) r cells h) in
    ap₂ (λ first rest. record { cost = first; rows = rest; columns = set columns e r })
    (exchanged_row-row pivot e cost (All-head same cost rows wide) below) (exchanged_row-rows pivot e rows (All-tail same cost rows wide) below)

-- each row is as long as the prepared cells of the pivot row
long_as_prepared : (columns : List ℕ) (rows : List (List ℤ)) (r e : ℕ) → AreCells columns rows → r < length (tableau_in rows columns).rows
    → All (λ (row : List ℤ). length row ≡ length (prepared_cells (row_of (tableau_in rows columns) r) e)) rows
long_as_prepared columns rows r e cells h i d below =
    let pivot : TableRow = row_of (tableau_in rows columns) r in
    omega (arith, wide_as_pivot columns rows r cells h i d below, length-set pivot.coefs e (neg_ℤ pivot.den))

-- after the pivot they are a tableau's cells again
pub AreCells-exchanged_row : (columns : List ℕ) (rows : List (List ℤ)) (r e : ℕ) → AreCells columns rows → r < length (tableau_in rows columns).rows
    → e < length columns → AreCells (set columns e r) (map
    (exchanged_row (entry (row_of (tableau_in rows columns) r) e) (e + 2) (prepared_cells (row_of (tableau_in rows columns) r) e)) rows)
AreCells-exchanged_row columns rows r e cells h k =
    let pivot : TableRow = row_of (tableau_in rows columns) r in
    let change : List ℤ → List ℤ = exchanged_row (entry pivot e) (e + 2) (prepared_cells pivot e) in
    record {
      some = omega (arith, length-map rows change, cells.some);
      wide = All-map (λ (row : List ℤ). length row ≡ length (set columns e r) + 2) change rows
          (λ i d below. omega (
            arith,
            length-exchanged_row (entry pivot e) (e + 2) (prepared_cells pivot e) (get_or rows i d)
                (long_as_prepared columns rows r e cells h i d below),
            length-set columns e r,
            cells.wide i d below,
          ));
    }

-- ---- what a pivot needs

-- a table's rows have positive denominators
dens_positive : (p : ProblemData) (columns : List ℕ) (rows : List (List ℤ)) → AreCells columns rows → IsTableauOf p (tableau_in rows columns)
    → All (λ (row : List ℤ). pos 0 <ℤ get_or row 0 (pos 0)) rows
dens_positive p columns [] cells is = absurd (omega (arith, cells.some))
dens_positive p columns (cost ∷ rows) cells is = All-cons (λ (row : List ℤ). pos 0 <ℤ get_or row 0 (pos 0)) cost rows is.cost_fits.den_pos
    (λ i d below. (All-get_or_map (IsTableRow p.vars) row_in rows i d below is.rows_fit).den_pos)

-- where the number in the pivot column is positive each row can be exchanged
pub can_exchange : (p : ProblemData) (columns : List ℕ) (rows : List (List ℤ)) (r e : ℕ) → AreCells columns rows → IsTableauOf p (tableau_in rows columns)
    → All IsReducedRow rows
    → r < length (tableau_in rows columns).rows → e < length columns → pos 0 <ℤ entry (row_of (tableau_in rows columns) r) e
    → All (CanExchange (entry (row_of (tableau_in rows columns) r) e) (e + 2) (prepared_cells (row_of (tableau_in rows columns) r) e)) rows
can_exchange p columns rows r e cells is all_reduced h k positive i d below =
    let pivot : TableRow = row_of (tableau_in rows columns) r in
    record {
      same_length = long_as_prepared columns rows r e cells h i d below;
      behind_den = omega arith;
      within = omega (arith, cells.wide i d below);
      number_pos = positive;
      den_pos = dens_positive p columns rows cells is i d below;
      none_of_den = refl;
      reduced = all_reduced i d below;
    }

-- rows that were exchanged are reduced
pub exchanged_row-all_reduced : (number : ℤ) (place : ℕ) (pivot : List ℤ) (rows : List (List ℤ)) → All (CanExchange number place pivot) rows
    → ExchangesFit number place pivot rows
    → All IsReducedRow (map (exchanged_row number place pivot) rows)
exchanged_row-all_reduced number place pivot [] can fits = All-nil IsReducedRow
exchanged_row-all_reduced number place pivot (row ∷ rows) can fits =
    All-cons IsReducedRow (exchanged_row number place pivot row) (map (exchanged_row number place pivot) rows)
    (exchanged_row-reduced number place pivot row (All-head (CanExchange number place pivot) row rows can) fits.0)
    (exchanged_row-all_reduced number place pivot rows (All-tail (CanExchange number place pivot) row rows can) fits.1)

-- ---- shapes

-- rows of the lengths of a tableau's cells are a tableau's cells
pub AreCells-same_shape : (columns : List ℕ) (rows new : List (List ℤ)) → AreCells columns rows
    → map (λ (row : List ℤ). length row) new ≡ map (λ (row : List ℤ). length row) rows
    → AreCells columns new
AreCells-same_shape columns rows new cells same =
    let size : List ℤ → ℕ = λ row. length row in
    let is : ℕ → Type 0 = λ n. n ≡ length columns + 2 in
    record {
      some = omega (arith, ap length same, length-map new size, length-map rows size, cells.some);
      wide = λ i d below. All-get_or_map is size new i d below (subst (All is) (sym same) (All-map is size rows cells.wide));
    }

-- so a pivot keeps the room
pub HaveRoom-kept : (columns : List ℕ) (rows new : List (List ℤ)) (room next : List ℤ) (e r : ℕ) → HaveRoom columns rows room
    → map (λ (row : List ℤ). length row) new ≡ map (λ (row : List ℤ). length row) rows → length next ≡ length room → HaveRoom (set columns e r) new next
HaveRoom-kept columns rows new room next e r have same long =
    let few = length-set columns e r in
    let cells = AreCells-same_shape columns rows new have.cells same in
    record {
      cells = record { some = cells.some; wide = subst (λ n. All (λ (row : List ℤ). length row ≡ n + 2) new) (sym few) cells.wide };
      room_fits = omega (arith, long, have.room_fits, few);
    }

-- the prepared cells of a row are as many as its cells
length-prepared_cells : (row : List ℤ) (e : ℕ) → e + 2 < length row → length (prepared_cells (row_in row) e) ≡ length row
length-prepared_cells row e within = omega (arith, length-set (drop 2 row) e (neg_ℤ (row_in row).den), length-drop 2 row)

-- and fill the room
pub prepared_cells-room : (columns : List ℕ) (rows : List (List ℤ)) (r e : ℕ) (row room next : List ℤ) → HaveRoom columns rows room
    → r < length (tableau_in rows columns).rows → e < length columns
    → row ≡ get_or rows (r + 1) [] → next ≡ prepared_cells (row_in row) e → length next ≡ length room
prepared_cells-room columns rows r e row room next have h k is ready =
    let wide = wide_at columns rows (r + 1) row have.cells (omega (arith, length-cells columns rows have.cells)) is in
    omega (arith, ap length ready, length-prepared_cells row e (omega (arith, wide)), wide, have.room_fits)
