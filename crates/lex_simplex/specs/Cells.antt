-- Tableaus as plain lists: a row's cells are its denominator, its constant and its coefficients.
use Rattle.std.specs.Prelude.{◌≡◌, ℕ, zero, suc, ◌<◌, ◌≤◌, ◌+◌, ◌++◌, length, List, [], ◌∷◌, map, take, drop, set, get_or, ℤ, pos, neg_ℤ, All}
use Rattle.frac128.specs.Entries.{entries_from}
use Rattle.lex_simplex.specs.Tableau.{TableRow, Tableau}

-- the first count parts of the list, each of so many numbers
abbrev pub rows_in : {A : Type 0} → ℕ → ℕ → List A → List (List A)
rows_in width zero xs = []
rows_in width (suc count) xs = take width xs ∷ rows_in width count (drop width xs)

-- a row for the cost at least, and in each row two cells and one for each column
pub record AreCells (columns : List ℕ) (rows : List (List ℤ)) : Type 0 where
  pub some : 0 < length rows
  pub wide : All (λ (row : List ℤ). length row ≡ length columns + 2) rows

-- the list with other numbers from the place on
abbrev pub with_part : {A : Type 0} → List A → ℕ → List A → List A
with_part xs start ys = take start xs ++ ys ++ drop (start + length ys) xs

-- rows one after the other
abbrev pub joined_rows : {A : Type 0} → List (List A) → List A
joined_rows [] = []
joined_rows (row ∷ rows) = row ++ joined_rows rows

-- the cells of a row
abbrev pub cells_of : TableRow → List ℤ
cells_of row = row.den ∷ row.constant ∷ row.coefs

-- the row of these cells
abbrev pub row_in : List ℤ → TableRow
row_in cells = record { den = get_or cells 0 (pos 0); constant = get_or cells 1 (pos 0); coefs = drop 2 cells }

-- the tableau of these rows, the cost's first
abbrev pub tableau_in : List (List ℤ) → List ℕ → Tableau
tableau_in rows columns = record {
  cost = row_in (get_or rows 0 []);
  rows = map row_in (drop 1 rows);
  columns = columns;
}

-- the cells of a tableau's rows, the cost's first
abbrev pub table_rows : Tableau → List (List ℤ)
table_rows t = map cells_of (t.cost ∷ t.rows)

-- the pivot row's cells so that a row step with them is the pivot: none of its denominator, which goes into the pivot
-- column
abbrev pub prepared_cells : TableRow → ℕ → List ℤ
prepared_cells pivot e = pos 0 ∷ pivot.constant ∷ set pivot.coefs e (neg_ℤ pivot.den)

-- the first so many entries are those cells that are not 0, with room for all
pub record AreListed (cells : List ℤ) (entries : List (ℕ × ℤ)) (count : ℕ) : Type 0 where
  pub room : length entries ≡ length cells
  pub few : count ≤ length entries
  pub listed : take count entries ≡ entries_from 0 cells

-- cells of a tableau, with room for a row of them
pub record HaveRoom (columns : List ℕ) (rows : List (List ℤ)) (room : List ℤ) : Type 0 where
  pub cells : AreCells columns rows
  pub room_fits : length room ≡ length columns + 2
