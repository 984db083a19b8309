-- What the rows of a tableau's cells are read as.
use Rattle.std.proofs.lemmas.List.{get_or-drop, get_or-map, get_or-take, length-map, length-take, take-map}
use Rattle.std.proofs.Common.{◌≡◌, ℕ, ◌+◌, ◌<◌, length, get_or, take, drop, map, List, [], ◌∷◌, ℤ, pos, refl, sym, ap, ap₂, All, ◌≤◌, ◌∙◌, arith, add-one}
use Rattle.std.proofs.lemmas.List.Elements.{All-head, All-tail}
use Rattle.lex_simplex.specs.Cells.{AreCells, cells_of, row_in, table_rows, tableau_in}
use Rattle.lex_simplex.specs.Tableau.{TableRow, no_row, ordering_row, ordering_rows, row_of, entry}

-- a row's number in a column
pub entry-cells : (cells : List ℤ) (e : ℕ) → entry (row_in cells) e ≡ get_or cells (e + 2) (pos 0)
entry-cells cells e = let same : 2 + e ≡ e + 2 = omega arith in get_or-drop 2 cells e (pos 0) ∙ ap (λ k. get_or cells k (pos 0)) same

-- the row of a quantity
pub row_of-cells : (columns : List ℕ) (rows : List (List ℤ)) (i : ℕ) → i < length (tableau_in rows columns).rows
    → row_of (tableau_in rows columns) i ≡ row_in (get_or rows (i + 1) [])
row_of-cells columns rows i h =
    let same : 1 + i ≡ i + 1 = omega arith in
    get_or-map row_in (drop 1 rows) i [] no_row (omega (arith, length-map (drop 1 rows) row_in))
    ∙ ap row_in (get_or-drop 1 rows i [] ∙ ap (λ k. get_or rows k []) same)

-- one row for the cost and one for each quantity
pub length-cells : (columns : List ℕ) (rows : List (List ℤ)) → AreCells columns rows → length (tableau_in rows columns).rows + 1 ≡ length rows
length-cells columns [] cells = absurd (omega (arith, cells.some))
length-cells columns (cost ∷ rows) cells = omega (arith, length-map rows row_in)

-- each row has a cell for its denominator, its constant and each column
pub wide_at : (columns : List ℕ) (rows : List (List ℤ)) (i : ℕ) (cells : List ℤ) → AreCells columns rows → i < length rows → cells ≡ get_or rows i []
    → length cells ≡ length columns + 2
wide_at columns rows i cells are h is = ap length is ∙ are.wide i [] h

-- ---- from rows to cells

-- the cells of the row of some cells are these
cells_of-row_in : (n : ℕ) (cells : List ℤ) → length cells ≡ n + 2 → cells_of (row_in cells) ≡ cells
cells_of-row_in n [] h = absurd (omega arith)
cells_of-row_in n (d ∷ []) h = absurd (omega arith)
cells_of-row_in n (d ∷ b ∷ ts) h = refl

-- and so for many rows
cells_of-rows_in : (n : ℕ) (rows : List (List ℤ)) → All (λ (row : List ℤ). length row ≡ n + 2) rows → map cells_of (map row_in rows) ≡ rows
cells_of-rows_in n [] h = refl
cells_of-rows_in n (row ∷ rows) h =
    let wide : List ℤ → Type 0 = λ row. length row ≡ n + 2 in
    ap₂ (λ x xs. x ∷ xs) (cells_of-row_in n row (All-head wide row rows h)) (cells_of-rows_in n rows (All-tail wide row rows h))

-- the cells of the rows of a tableau's cells are these
pub table_rows-tableau_in : (columns : List ℕ) (rows : List (List ℤ)) → AreCells columns rows → table_rows (tableau_in rows columns) ≡ rows
table_rows-tableau_in columns [] cells = absurd (omega (arith, cells.some))
table_rows-tableau_in columns (cost ∷ rows) cells = cells_of-rows_in (length columns) (cost ∷ rows) cells.wide
