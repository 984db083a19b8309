-- The cells of a problem's first table.
use Prim.Native.Nat.{◌∣◌}
use lib.ListN.{length-replicate}
use Rattle.std.proofs.Math.Nat.{suc-mul, zero-mul, mul-div_cancel}
use Rattle.std.proofs.lemmas.List.{append_assoc, map-append}
use Rattle.std.proofs.lemmas.List.Elements.{All-nil, All-cons, All-head, All-tail, All-map, All-replicate, All-set, All-weaker}
use Rattle.std.proofs.Common.{◌≡◌, ℕ, ◌+◌, ◌*◌, ◌/◌, ◌<◌, ◌≤◌, length, map, All, List, [], ◌∷◌, ◌++◌, ℤ, pos, replicate, get_or, unsigned_abs, refl, sym, ap, ap₂, subst, subst₂, ◌∙◌, arith, length-append, ◌-◌}
use Rattle.std.proofs.lemmas.Simd.{map-map}
use Rattle.integers.specs.Counting.{numbers_from}
use Rattle.integers.proofs.Numbers.{length-numbers_from, numbers_from-next}
use Rattle.integers.proofs.Vector.{unit_vector-parts}
use Rattle.integers.proofs.Divisibility.{DividesAll-cons, DividesAll-one}
use Rattle.integers.proofs.Lists.{All-parts}
use Rattle.frac128.specs.Problem.{ProblemData, IsProblem, IsRow}
use Rattle.frac128.specs.Range.{IsInRange}
use Rattle.frac128.proofs.Numbers.{in_range-neg, in_range-zero}
use Rattle.frac128.specs.declared.problem.Row.{Row}
use Rattle.lex_simplex.specs.Cells.{AreCells, HaveRoom, cells_of, joined_rows, row_in, rows_in, table_rows, tableau_in}
use Rattle.lex_simplex.specs.Equations.{IsTableRow}
use Rattle.lex_simplex.specs.State.{IsWorkable}
use Rattle.lex_simplex.specs.Steps.{IsReducedRow}
use Rattle.lex_simplex.specs.Tableau.{TableRow, Tableau, start, variable_row, surplus_row}
use Rattle.lex_simplex.proofs.CellLists.Grids.{rows_in-append}
use Rattle.lex_simplex.proofs.Tableaus.Start.{start_is}

-- ---- a tableau's cells

-- rows one after the other are as long as their width times their number
pub length-joined_rows : {A : Type 0} (width : ℕ) (rows : List (List A)) → All (λ (row : List A). length row ≡ width) rows
    → length (joined_rows rows) ≡ length rows * width
length-joined_rows {A} width [] h = sym (zero-mul width)
length-joined_rows {A} width (row ∷ rows) h =
    let first = All-head (λ (row : List A). length row ≡ width) row rows h in
    let rest = length-joined_rows width rows (All-tail (λ (row : List A). length row ≡ width) row rows h) in
    omega (arith, length-append row (joined_rows rows), suc-mul (length rows) width)

-- and are read as these rows
pub rows_in-joined_rows : {A : Type 0} (width : ℕ) (rows : List (List A)) → All (λ (row : List A). length row ≡ width) rows
    → rows_in width (length rows) (joined_rows rows) ≡ rows
rows_in-joined_rows {A} width [] h = refl
rows_in-joined_rows {A} width (row ∷ rows) h = rows_in-append width (length rows) row (joined_rows rows)
    (All-head (λ (row : List A). length row ≡ width) row rows h)
    ∙ ap (λ rs. row ∷ rs) (rows_in-joined_rows width rows (All-tail (λ (row : List A). length row ≡ width) row rows h))

-- a row's cells are read as the row
row_in-cells_of : (rows : List TableRow) → map row_in (map cells_of rows) ≡ rows
row_in-cells_of [] = refl
row_in-cells_of (row ∷ rows) = ap (λ rs. row ∷ rs) (row_in-cells_of rows)

-- the cells of a tableau are read as the tableau
pub tableau_in-table_rows : (t : Tableau) → tableau_in (table_rows t) t.columns ≡ t
tableau_in-table_rows t = ap (λ rs. record { cost = t.cost; rows = rs; columns = t.columns }) (row_in-cells_of t.rows)

-- rows one after the other, in two parts
joined_rows-append : {A : Type 0} (rows others : List (List A)) → joined_rows (rows ++ others) ≡ joined_rows rows ++ joined_rows others
joined_rows-append [] others = refl
joined_rows-append (row ∷ rows) others = ap (λ l. row ++ l) (joined_rows-append rows others)
    ∙ sym (append_assoc row (joined_rows rows) (joined_rows others))

-- rows with a coefficient for each column have so many cells
cells_wide : (vars : ℕ) (rows : List TableRow) → All (IsTableRow vars) rows → All (λ (row : List ℤ). length row ≡ vars + 2) (map cells_of rows)
cells_wide vars [] h = All-nil (λ (row : List ℤ). length row ≡ vars + 2)
cells_wide vars (row ∷ rows) h =
    let first = All-head (IsTableRow vars) row rows h in
    let wide : length (cells_of row) ≡ vars + 2 = omega (arith, first.one_each) in
    All-cons (λ (row : List ℤ). length row ≡ vars + 2) (cells_of row) (map cells_of rows) wide
    (cells_wide vars rows (All-tail (IsTableRow vars) row rows h))

-- ---- the first table

-- the cells that are pushed for the cost, the variables and the rows
pub pushed_cells : (p : ProblemData) (none one two three : List ℤ) → none ≡ [] → one ≡ none ++ (pos 1 ∷ pos 0 ∷ p.cost)
    → two ≡ one ++ joined_rows (map (λ (j : ℕ). cells_of (variable_row p.vars j)) (numbers_from 0 p.vars))
    → three ≡ two ++ joined_rows (map (λ (row : Row). cells_of (surplus_row row)) p.rows) → three ≡ joined_rows (table_rows (start p))
pushed_cells p none one two three n a b c =
    let first : List ℤ = pos 1 ∷ pos 0 ∷ p.cost in
    let variables : List (List ℤ) = map (λ (j : ℕ). cells_of (variable_row p.vars j)) (numbers_from 0 p.vars) in
    let surpluses : List (List ℤ) = map (λ (row : Row). cells_of (surplus_row row)) p.rows in
    let parts : map cells_of (map (variable_row p.vars) (numbers_from 0 p.vars) ++ map surplus_row p.rows) ≡ variables ++ surpluses =
    map-append cells_of (map (variable_row p.vars) (numbers_from 0 p.vars)) (map surplus_row p.rows)
    ∙ ap₂ (λ a b. a ++ b) (map-map cells_of (variable_row p.vars) (numbers_from 0 p.vars)) (map-map cells_of surplus_row p.rows) in
    c ∙ ap (λ l. l ++ joined_rows surpluses) (b ∙ ap (λ l. l ++ joined_rows variables) (a ∙ ap (λ l. l ++ first) n))
    ∙ append_assoc first (joined_rows variables) (joined_rows surpluses)
    ∙ ap (λ l. first ++ l) (sym (joined_rows-append variables surpluses) ∙ ap joined_rows (sym parts))

-- each row of the first table has two cells and one for each variable
pub start-wide : (p : ProblemData) → IsProblem p → All (λ (row : List ℤ). length row ≡ p.vars + 2) (table_rows (start p))
start-wide p ok = let is = start_is p ok in cells_wide p.vars ((start p).cost ∷ (start p).rows)
    (All-cons (IsTableRow p.vars) (start p).cost (start p).rows is.cost_fits is.rows_fit)

-- they are cells of the first columns
pub start-cells : (p : ProblemData) → IsProblem p → AreCells (numbers_from 0 p.vars) (table_rows (start p))
start-cells p ok = record {
  some = omega arith;
  wide = subst (λ n. All (λ (row : List ℤ). length row ≡ n + 2) (table_rows (start p))) (sym (length-numbers_from 0 p.vars)) (start-wide p ok);
}

-- the width is the variables' number and two more, and it is within the cells' number
pub start-counts : (p : ProblemData) → IsProblem p → (cells : List ℤ) → cells ≡ joined_rows (table_rows (start p))
    → (length cells ≡ length (table_rows (start p)) * (p.vars + 2)) × (p.vars + 2 ≤ length cells)
    × (length cells / (p.vars + 2) ≡ length (table_rows (start p)))
start-counts p ok cells is =
    let long : length cells ≡ length (table_rows (start p)) * (p.vars + 2) = ap length is
    ∙ length-joined_rows (p.vars + 2) (table_rows (start p)) (start-wide p ok) in
    let some : length (table_rows (start p)) * (p.vars + 2) ≡ length (map cells_of (start p).rows) * (p.vars + 2) + (p.vars + 2) =
    suc-mul (length (map cells_of (start p).rows)) (p.vars + 2) in
    let width : 0 < p.vars + 2 = omega arith in
    (long, omega (arith, long, some), ap (λ n. n / (p.vars + 2)) long ∙ mul-div_cancel (length (table_rows (start p))) width)

-- so the cells are read as the first table's rows
pub start-rows : (p : ProblemData) → IsProblem p → (cells : List ℤ) (count : ℕ) → cells ≡ joined_rows (table_rows (start p))
    → count ≡ length (table_rows (start p)) → rows_in (p.vars + 2) count cells ≡ table_rows (start p)
start-rows p ok cells count is number = ap₂ (rows_in (p.vars + 2)) number is ∙ rows_in-joined_rows (p.vars + 2) (table_rows (start p)) (start-wide p ok)

-- the first table's cells are read as the problem's first tableau
pub first_tableau : (p : ProblemData) (columns : List ℕ) (rows : List (List ℤ)) → columns ≡ numbers_from 0 p.vars → rows ≡ table_rows (start p)
    → tableau_in rows columns ≡ start p
first_tableau p columns rows c r = ap₂ tableau_in r c ∙ tableau_in-table_rows (start p)

-- with room for a row of them
pub first_room : (p : ProblemData) → IsProblem p → (columns : List ℕ) (rows : List (List ℤ)) (room : List ℤ) (width : ℕ) → columns ≡ numbers_from 0 p.vars
    → rows ≡ table_rows (start p)
    → width ≡ length columns → room ≡ replicate (width + 2) (pos 0) → HaveRoom columns rows room
first_room p ok columns rows room width c r few is = record {
  cells = subst₂ AreCells (sym c) (sym r) (start-cells p ok);
  room_fits = omega (arith, ap length is, length-replicate (width + 2) (pos 0), few);
}

-- ---- turns can go on from it

-- a row over 1 has no common divisor
reduced_over_one : (row : TableRow) → row.den ≡ pos 1 → IsInRange row.constant → All IsInRange row.coefs → IsReducedRow (cells_of row)
reduced_over_one row one constant coefs =
    let one_fits : IsInRange (pos 1) = omega arith in
    record {
      in_range = All-cons IsInRange row.den (row.constant ∷ row.coefs) (subst IsInRange (sym one) one_fits)
          (All-cons IsInRange row.constant row.coefs constant coefs);
      no_divisor = (
        DividesAll-one (cells_of row),
        λ d h. subst (λ z. d ∣ unsigned_abs z) one ((DividesAll-cons d row.den (row.constant ∷ row.coefs)).0 h).0,
      );
    }

-- the variables' rows
variables_reduced : (vars : ℕ) (js : List ℕ) → All (λ (row : TableRow). IsReducedRow (cells_of row)) (map (variable_row vars) js)
variables_reduced vars js = All-map (λ (row : TableRow). IsReducedRow (cells_of row)) (variable_row vars) js (λ i d below. each (get_or js i d))
  where
    one_fits : IsInRange (pos 1)
    one_fits = omega arith

    each : (j : ℕ) → IsReducedRow (cells_of (variable_row vars j))
    each j =
        let zeros : All IsInRange (replicate vars (pos 0)) = All-replicate IsInRange vars (pos 0) (in_range-zero (pos 0) refl) in
        reduced_over_one (variable_row vars j) refl (in_range-zero (pos 0) refl) (All-set IsInRange (replicate vars (pos 0)) j (pos 1) one_fits zeros)

-- the surpluses' rows
surpluses_reduced : (vars : ℕ) (rows : List Row) → All (IsRow vars) rows → All (λ (row : TableRow). IsReducedRow (cells_of row)) (map surplus_row rows)
surpluses_reduced vars rows fit =
    All-map (λ (row : TableRow). IsReducedRow (cells_of row)) surplus_row rows
    (All-weaker (IsRow vars) (λ row. IsReducedRow (cells_of (surplus_row row)))
    (λ row h. reduced_over_one (surplus_row row) refl ((in_range-neg row.bound).1 h.bound_in_range) h.coefs_in_range) rows fit)

-- all rows
start_reduced : (p : ProblemData) → IsProblem p → All IsReducedRow (table_rows (start p))
start_reduced p ok =
    let reduced : TableRow → Type 0 = λ row. IsReducedRow (cells_of row) in
    let variables : List TableRow = map (variable_row p.vars) (numbers_from 0 p.vars) in
    let surpluses : List TableRow = map surplus_row p.rows in
    let rest : All reduced (variables ++ surpluses) = (All-parts reduced variables surpluses).1 (
      variables_reduced p.vars (numbers_from 0 p.vars),
      surpluses_reduced p.vars p.rows ok.rows_fit,
    ) in
    All-cons IsReducedRow (cells_of (start p).cost) (map cells_of (start p).rows)
    (reduced_over_one (start p).cost refl (in_range-zero (pos 0) refl) ok.cost_in_range) (All-map IsReducedRow cells_of (start p).rows rest)

-- the first tableau is one that turns can go on from
pub start_workable : (p : ProblemData) → IsProblem p → IsWorkable (start p)
start_workable p ok = record { problem = p; is_problem = ok; is_tableau = start_is p ok; rows_reduced = start_reduced p ok }

-- ---- the cells that code pushes

-- the cells that code pushes, by the numbers, costs and rows that it reads from the problem
pub filled : (p : ProblemData) (vars : ℕ) (cost : List ℤ) (rows : List Row) (none one two three : List ℤ) → vars ≡ p.vars → cost ≡ p.cost → rows ≡ p.rows
    → none ≡ [] → one ≡ none ++ (pos 1 ∷ pos 0 ∷ cost) → two ≡ one ++ joined_rows (map (λ (j : ℕ). cells_of (variable_row vars j)) (numbers_from 0 vars))
    → three ≡ two ++ joined_rows (map (λ (row : Row). cells_of (surplus_row row)) rows) → three ≡ joined_rows (table_rows (start p))
filled p vars cost rows none one two three v c r n a b d =
    pushed_cells p none one two three n (a ∙ ap (λ cs. none ++ (pos 1 ∷ pos 0 ∷ cs)) c) (b
    ∙ ap (λ k. one ++ joined_rows (map (λ (j : ℕ). cells_of (variable_row k j)) (numbers_from 0 k))) v) (d
    ∙ ap (λ rs. two ++ joined_rows (map (λ (row : Row). cells_of (surplus_row row)) rs)) r)

-- they fill so many rows
pub filled-counts : (p : ProblemData) → IsProblem p → (vars total : ℕ) (cells : List ℤ) → vars ≡ p.vars → total ≡ length cells
    → cells ≡ joined_rows (table_rows (start p)) → length cells ≡ total / (vars + 2) * (vars + 2)
filled-counts p ok vars total cells v t is =
    let counts = start-counts p ok cells is in
    counts.0 ∙ ap₂ (λ n w. n * (w + 2)) (sym counts.2) (sym v) ∙ ap₂ (λ n w. n / (w + 2) * (vars + 2)) (sym t) (sym v)

-- and are read as these
pub filled-rows : (p : ProblemData) → IsProblem p → (vars total : ℕ) (cells : List ℤ) → vars ≡ p.vars → total ≡ length cells
    → cells ≡ joined_rows (table_rows (start p)) → rows_in (vars + 2) (total / (vars + 2)) cells ≡ table_rows (start p)
filled-rows p ok vars total cells v t is =
    let counts = start-counts p ok cells is in
    ap₂ (λ n w. rows_in (w + 2) (n / (w + 2)) cells) t v ∙ start-rows p ok cells (length cells / (p.vars + 2)) is counts.2

-- ---- the variables' rows

-- the rows of the variables that are left begin with the next one's
pub variable_rows-next : (vars i : ℕ) → i < vars → joined_rows (map (λ (j : ℕ). cells_of (variable_row vars j)) (numbers_from i (vars - i)))
    ≡ cells_of (variable_row vars i) ++ joined_rows (map (λ (j : ℕ). cells_of (variable_row vars j)) (numbers_from (i + 1) (vars - (i + 1))))
variable_rows-next vars i h = ap (λ ns. joined_rows (map (λ (j : ℕ). cells_of (variable_row vars j)) ns)) (numbers_from-next i vars h)

-- the cells of a variable's row, piece by piece
pub variable_cells : (vars j : ℕ) (before one two three four five : List ℤ) → j < vars → one ≡ before ++ pos 1 ∷ [] → two ≡ one ++ pos 0 ∷ []
    → three ≡ two ++ replicate j (pos 0) → four ≡ three ++ pos 1 ∷ [] → five ≡ four ++ replicate (vars - j - 1) (pos 0)
    → five ≡ before ++ cells_of (variable_row vars j)
variable_cells vars j before one two three four five h a b c d e =
    let zeros : List ℤ = replicate j (pos 0) in
    let rest : List ℤ = replicate (vars - j - 1) (pos 0) in
    let front : two ≡ before ++ (pos 1 ∷ pos 0 ∷ []) = b ∙ ap (λ l. l ++ pos 0 ∷ []) a ∙ append_assoc before (pos 1 ∷ []) (pos 0 ∷ []) in
    e ∙ ap (λ l. l ++ rest) (d ∙ ap (λ l. l ++ pos 1 ∷ []) (c ∙ ap (λ l. l ++ zeros) front))
    ∙ append_assoc (before ++ (pos 1 ∷ pos 0 ∷ []) ++ zeros) (pos 1 ∷ []) rest
    ∙ append_assoc (before ++ (pos 1 ∷ pos 0 ∷ [])) zeros (pos 1 ∷ rest)
    ∙ append_assoc before (pos 1 ∷ pos 0 ∷ []) (zeros ++ (pos 1 ∷ rest))
    ∙ ap (λ us. before ++ (pos 1 ∷ pos 0 ∷ us)) (sym (unit_vector-parts vars j h))
