-- The rows of a tableau and the quantities of its columns: shapes, equations, and the numbers at a place.
use Rattle.std.proofs.lemmas.List.{length-map, map-set}
use Rattle.std.proofs.lemmas.List.Elements.{All-cons, All-get_or, All-map, All-take, All-weaker}
use Rattle.std.proofs.Common.{◌≡◌, ℕ, zero, suc, ◌<◌, length, get_or, set, map, take, List, [], ◌∷◌, ◌++◌, All, ℤ, pos, ◌<ℤ◌, refl, ap, arith, ◌≤ℤ◌}
use Rattle.integers.specs.Fraction.{IsFraction, AreFractions}
use Rattle.integers.specs.Vector.{AreNonNegative}
use Rattle.integers.proofs.VectorOrder.{get_or_nonneg}
use Rattle.frac128.specs.Problem.{ProblemData}
use Rattle.lex_simplex.specs.Equations.{surplus, quantities, nonbasic, Holds, AllHold, IsTableRow, IsTableauOf}
use Rattle.lex_simplex.specs.Tableau.{no_row, TableRow, Tableau, ordering_rows, row_of, entry, value_of}

-- ---- rows that hold

-- as many rows as quantities
pub AllHold-length : (qs us : List ℤ) (n : ℤ) (rows : List TableRow) → AllHold qs us n rows → length qs ≡ length rows
AllHold-length [] us n [] h = refl
AllHold-length [] us n (row ∷ rows) h = absurd h
AllHold-length (q ∷ qs) us n [] h = absurd h
AllHold-length (q ∷ qs) us n (row ∷ rows) h = ap suc (AllHold-length qs us n rows h.1)

-- the equation at a place
pub AllHold-at : (qs us : List ℤ) (n : ℤ) (rows : List TableRow) (i : ℕ) (d : TableRow) → AllHold qs us n rows → i < length rows
    → Holds (get_or qs i (pos 0)) us n (get_or rows i d)
AllHold-at [] us n [] i d h l = absurd (omega arith)
AllHold-at [] us n (row ∷ rows) i d h l = absurd h
AllHold-at (q ∷ qs) us n [] i d h l = absurd h
AllHold-at (q ∷ qs) us n (row ∷ rows) zero d h l = h.0
AllHold-at (q ∷ qs) us n (row ∷ rows) (suc i) d h l = AllHold-at qs us n rows i d h.1 (omega arith)

-- the equations of the first quantities
pub AllHold-take : (xs ys us : List ℤ) (n : ℤ) (rows : List TableRow) (m : ℕ) → length xs ≡ m → AllHold (xs ++ ys) us n rows → AllHold xs us n (take m rows)
AllHold-take [] ys us n rows zero l h = tt
AllHold-take [] ys us n rows (suc m) l h = absurd (omega arith)
AllHold-take (x ∷ xs) ys us n rows zero l h = absurd (omega arith)
AllHold-take (x ∷ xs) ys us n [] (suc m) l h = absurd h
AllHold-take (x ∷ xs) ys us n (row ∷ rows) (suc m) l h = (h.0, AllHold-take xs ys us n rows m (omega arith) h.1)

-- equations one after the other
pub AllHold-append : (us : List ℤ) (n : ℤ) (qs rs : List ℤ) (rows others : List TableRow) → AllHold qs us n rows → AllHold rs us n others
    → AllHold (qs ++ rs) us n (rows ++ others)
AllHold-append us n [] rs [] others h k = k
AllHold-append us n [] rs (row ∷ rows) others h k = absurd h
AllHold-append us n (q ∷ qs) rs [] others h k = absurd h
AllHold-append us n (q ∷ qs) rs (row ∷ rows) others h k = (h.0, AllHold-append us n qs rs rows others h.1 k)

-- equations from those at each place
pub AllHold-from_at : (us : List ℤ) (n : ℤ) (d : TableRow) (qs : List ℤ) (rows : List TableRow) → length qs ≡ length rows
    → ((i : ℕ) → i < length rows → Holds (get_or qs i (pos 0)) us n (get_or rows i d)) → AllHold qs us n rows
AllHold-from_at us n d [] [] e h = tt
AllHold-from_at us n d [] (row ∷ rows) e h = absurd (omega arith)
AllHold-from_at us n d (q ∷ qs) [] e h = absurd (omega arith)
AllHold-from_at us n d (q ∷ qs) (row ∷ rows) e h = (h 0 (omega arith), AllHold-from_at us n d qs rows (omega arith) (λ i l. h (suc i) (omega arith)))

-- ---- the columns' quantities

-- the number at a place of the columns
pub get_or-nonbasic : (columns : List ℕ) (qs : List ℤ) (j : ℕ) → j < length columns
    → get_or (nonbasic columns qs) j (pos 0) ≡ get_or qs (get_or columns j 0) (pos 0)
get_or-nonbasic [] qs j l = absurd (omega arith)
get_or-nonbasic (c ∷ columns) qs zero l = refl
get_or-nonbasic (c ∷ columns) qs (suc j) l = get_or-nonbasic columns qs j (omega arith)

-- as many numbers as columns
pub length-nonbasic : (columns : List ℕ) (qs : List ℤ) → length (nonbasic columns qs) ≡ length columns
length-nonbasic columns qs = length-map columns (λ c. get_or qs c (pos 0))

-- the columns' quantities after one column changes its quantity
pub nonbasic-set : (columns : List ℕ) (qs : List ℤ) (e r : ℕ) → nonbasic (set columns e r) qs ≡ set (nonbasic columns qs) e (get_or qs r (pos 0))
nonbasic-set columns qs e r = map-set (λ c. get_or qs c (pos 0)) columns e r

-- the columns' numbers are not negative where all are not
pub nonbasic_nonneg : (columns : List ℕ) (qs : List ℤ) → AreNonNegative qs → AreNonNegative (nonbasic columns qs)
nonbasic_nonneg columns qs h = All-map (λ x. pos 0 ≤ℤ x) (λ c. get_or qs c (pos 0)) columns (λ i d l. get_or_nonneg qs h (get_or columns i d))

-- ---- lists of rows

-- the numbers of a column
abbrev pub column_in : List TableRow → ℕ → List ℤ
column_in rows e = map (λ (row : TableRow). entry row e) rows

-- each row has a positive denominator
pub dens_pos : (vars : ℕ) (rows : List TableRow) → All (IsTableRow vars) rows → All (λ (row : TableRow). pos 0 <ℤ row.den) rows
dens_pos vars rows h = All-weaker (IsTableRow vars) (λ (row : TableRow). pos 0 <ℤ row.den) (λ row k. k.den_pos) rows h

-- the values of rows with positive denominators are fractions
pub AreFractions-rows : (vars : ℕ) (rows : List TableRow) → All (IsTableRow vars) rows → AreFractions (map value_of rows)
AreFractions-rows vars rows h = All-map IsFraction value_of rows (dens_pos vars rows h)

-- ---- the rows of a tableau of a problem

-- the row of a quantity has the shape of a row
pub row_of-fits : (p : ProblemData) (t : Tableau) (r : ℕ) → IsTableauOf p t → r < length t.rows → IsTableRow p.vars (row_of t r)
row_of-fits p t r is below = All-get_or (IsTableRow p.vars) t.rows r no_row below is.rows_fit

-- the equation of a quantity's row
pub row_of-holds : (p : ProblemData) (t : Tableau) (r : ℕ) → IsTableauOf p t → r < length t.rows → (x : List ℤ) (n : ℤ) → length x ≡ p.vars
    → Holds (get_or (quantities p x n) r (pos 0)) (nonbasic t.columns (quantities p x n)) n (row_of t r)
row_of-holds p t r is below x n wide = AllHold-at (quantities p x n) (nonbasic t.columns (quantities p x n)) n t.rows r no_row (is.rows_hold x n wide) below

-- the rows that order columns have the shape of rows
pub ordering_rows-fit : (p : ProblemData) (t : Tableau) → IsTableauOf p t → All (IsTableRow p.vars) (ordering_rows t)
ordering_rows-fit p t is = All-cons (IsTableRow p.vars) t.cost (take (length t.columns) t.rows) is.cost_fits
    (All-take (IsTableRow p.vars) (length t.columns) t.rows is.rows_fit)

-- the variables' rows hold at the variables
pub variables_hold : (p : ProblemData) (t : Tableau) → IsTableauOf p t → (x : List ℤ) (n : ℤ) → length x ≡ p.vars
    → AllHold x (nonbasic t.columns (quantities p x n)) n (take p.vars t.rows)
variables_hold p t h x n l = AllHold-take x (map (surplus x n) p.rows) (nonbasic t.columns (quantities p x n)) n t.rows p.vars l (h.rows_hold x n l)
