-- The tableau that a run starts with is one of its problem.
use lib.IntN.{zero-*ℤ}
use Rattle.std.proofs.Math.Nat.{eq-or-lt_of_le}
use Rattle.std.proofs.lemmas.Int.{by_lt_z}
use Rattle.std.proofs.lemmas.List.{length-append, length-map, get_or-map, get_or_append_left, take_at, ext_get_or}
use Rattle.std.proofs.lemmas.List.Elements.{All-append, All-from_get_or, All-get_or, All-map, All-weaker}
use Rattle.std.proofs.Common.{◌≡◌, ◌⊎◌, inl, inr, ℕ, zero, suc, ◌+◌, ◌<◌, ◌≤◌, length, get_or, take, map, List, [], ◌∷◌, ◌++◌, ℤ, pos, ◌≤ℤ◌, ◌<ℤ◌, refl, sym, ap, ap₂, subst, ◌∙◌, arith}
use Rattle.std.specs.Int.Signed.{lt_z_yes}
use Rattle.std.specs.Prelude.{All}
use Rattle.integers.specs.Counting.{numbers_from}
use Rattle.integers.specs.Lexicographic.{IsLexPositive}
use Rattle.integers.specs.Vector.{dot, unit_vector, AreZero}
use Rattle.integers.proofs.Laws.{lin, one-*ℤ}
use Rattle.integers.proofs.Ring.{con, neg, ◌⊕◌, ◌⊖◌, ◌⊗◌, ◌≗◌, ring2, ring3}
use Rattle.integers.proofs.Vector.{dot_comm, dot-unit_vector, length-unit_vector, get_or-unit_vector, get_or-unit_vector_other}
use Rattle.integers.proofs.Numbers.{get_or-numbers_from, length-numbers_from}
use Rattle.frac128.specs.Problem.{ProblemData, IsProblem, IsRow}
use Rattle.frac128.specs.declared.problem.Row.{Row}
use Rattle.lex_simplex.specs.Equations.{surplus, quantities, nonbasic, Holds, AllHold, IsTableRow, IsTableauOf}
use Rattle.lex_simplex.specs.Tableau.{TableRow, start, variable_row, surplus_row, entry, column}
use Rattle.lex_simplex.proofs.Tableaus.Rows.{AllHold-append, AllHold-from_at}

-- ---- the variables' rows

-- the rows of the variables
abbrev pub variable_rows : ℕ → List TableRow
variable_rows vars = map (variable_row vars) (numbers_from 0 vars)

-- as many as variables
length-variable_rows : (vars : ℕ) → length (variable_rows vars) ≡ vars
length-variable_rows vars = length-map (numbers_from 0 vars) (variable_row vars) ∙ length-numbers_from 0 vars

-- the row at a place
get_or-variable_rows : (vars i : ℕ) (d : TableRow) → i < vars → get_or (variable_rows vars) i d ≡ variable_row vars i
get_or-variable_rows vars i d h = get_or-map (variable_row vars) (numbers_from 0 vars) i 0 d (omega (arith, length-numbers_from 0 vars))
    ∙ ap (variable_row vars) (get_or-numbers_from 0 vars i 0 h ∙ omega arith)

-- the rows of the variables come first
take-start_rows : (p : ProblemData) → take p.vars (start p).rows ≡ variable_rows p.vars
take-start_rows p = take_at (variable_rows p.vars) (map surplus_row p.rows) p.vars (length-variable_rows p.vars)

-- the variables' columns stand for the variables
nonbasic-start : (x ys : List ℤ) (n : ℕ) → length x ≡ n → nonbasic (numbers_from 0 n) (x ++ ys) ≡ x
nonbasic-start x ys n e =
    let f : ℕ → ℤ = λ c. get_or (x ++ ys) c (pos 0) in
    let wide : length (map f (numbers_from 0 n)) ≡ length x = length-map (numbers_from 0 n) f ∙ length-numbers_from 0 n ∙ sym e in
    ext_get_or (pos 0) (map f (numbers_from 0 n)) x wide (λ i h. get_or-map f (numbers_from 0 n) i 0 (pos 0) (omega (arith, length-numbers_from 0 n))
    ∙ ap f (get_or-numbers_from 0 n i 0 (omega arith) ∙ omega arith) ∙ get_or_append_left x ys (pos 0) i (omega arith))

-- ---- the equations

-- a variable's equation
variable_row-holds : (vars j : ℕ) (x : List ℤ) (n : ℤ) → j < vars → Holds (get_or x j (pos 0)) x n (variable_row vars j)
variable_row-holds vars j x n h = let product = dot_comm (unit_vector vars j) x ∙ dot-unit_vector x vars j h in
    omega (arith, lin, one-*ℤ (get_or x j (pos 0)), zero-*ℤ n)

-- the variables' equations
variable_rows-hold : (vars : ℕ) (x : List ℤ) (n : ℤ) → length x ≡ vars → AllHold x x n (variable_rows vars)
variable_rows-hold vars x n e = AllHold-from_at x n (variable_row vars 0) x (variable_rows vars) (e
    ∙ sym (length-variable_rows vars)) (λ i l. at i (omega (arith, length-variable_rows vars)))
  where
    at : (i : ℕ) → i < vars → Holds (get_or x i (pos 0)) x n (get_or (variable_rows vars) i (variable_row vars 0))
    at i l = subst (λ row. Holds (get_or x i (pos 0)) x n row) (sym (get_or-variable_rows vars i (variable_row vars 0) l)) (variable_row-holds vars i x n l)

-- the surpluses' equations
surplus_rows-hold : (rows : List Row) (x : List ℤ) (n : ℤ) → AllHold (map (surplus x n) rows) x n (map surplus_row rows)
surplus_rows-hold [] x n = tt
surplus_rows-hold (row ∷ rows) x n = (
  ring3 (λ d b n. con (pos 1) ⊗ (d ⊖ b ⊗ n) ≗ neg b ⊗ n ⊕ d) refl (dot row.coefs x) row.bound n,
  surplus_rows-hold rows x n,
)

-- ---- the columns

-- the columns are independent over the variables' rows
variable_rows-independent : (vars : ℕ) (d : List ℤ) → length d ≡ vars → All (λ (row : TableRow). dot row.coefs d ≡ pos 0) (variable_rows vars) → AreZero d
variable_rows-independent vars d e z = All-from_get_or (λ x. x ≡ pos 0) d (pos 0) (λ i h. at i (omega arith))
  where
    at : (i : ℕ) → i < vars → get_or d i (pos 0) ≡ pos 0
    at i l = sym (dot-unit_vector d vars i l) ∙ dot_comm d (unit_vector vars i)
        ∙ ap (λ (row : TableRow). dot row.coefs d) (sym (get_or-variable_rows vars i (variable_row vars 0) l))
        ∙ All-get_or (λ (row : TableRow). dot row.coefs d ≡ pos 0) (variable_rows vars) i (variable_row vars 0) (omega (arith, length-variable_rows vars)) z

-- a column is 0 in the rows of the variables before its own, and 1 there
variable_column-positive : (vars a n e : ℕ) → e < vars → a ≤ e → e < a + n
    → IsLexPositive (map (λ (row : TableRow). entry row e) (map (variable_row vars) (numbers_from a n)))
variable_column-positive vars a zero e below l h = absurd (omega arith)
variable_column-positive vars a (suc n) e below l h = step (eq-or-lt_of_le l) (λ k. variable_column-positive vars (suc a) n e below k (omega arith))
  where
    step : (a ≡ e) ⊎ a < e → (a < e → IsLexPositive (map (λ (row : TableRow). entry row e) (map (variable_row vars) (numbers_from (suc a) n))))
        → IsLexPositive (entry (variable_row vars a) e ∷ map (λ (row : TableRow). entry row e) (map (variable_row vars) (numbers_from (suc a) n)))
    step (inl same) rest = inl (subst (λ z. pos 0 <ℤ z) (sym (subst (λ b. get_or (unit_vector vars b) e (pos 0) ≡ pos 1) (sym same)
        (get_or-unit_vector vars e below))) (lt_z_yes tt))
    step (inr before) rest = inr (get_or-unit_vector_other vars a e (λ same. absurd (omega arith)), rest before)

-- the columns are lexicographically positive
start-column_positive : (p : ProblemData) → IsProblem p → (e : ℕ) → e < p.vars → IsLexPositive (column (start p) e)
start-column_positive p ok e below = subst (λ rows. IsLexPositive (get_or p.cost e (pos 0) ∷ map (λ (row : TableRow). entry row e) rows)) (sym first)
    (by_lt_z (pos 0) (get_or p.cost e (pos 0)) inl (λ most. inr (
      omega (arith, lin, nonneg),
      variable_column-positive p.vars 0 p.vars e below (omega arith) (omega arith),
    )))
  where
    first : take (length (numbers_from 0 p.vars)) (start p).rows ≡ variable_rows p.vars
    first = ap (λ n. take n (start p).rows) (length-numbers_from 0 p.vars) ∙ take-start_rows p

    nonneg : pos 0 ≤ℤ get_or p.cost e (pos 0)
    nonneg = All-get_or (λ c. pos 0 ≤ℤ c) p.cost e (pos 0) (omega (arith, ok.one_each)) ok.cost_nonneg

-- ---- the tableau

-- the rows have a number for each variable
start-rows_fit : (p : ProblemData) → IsProblem p → All (IsTableRow p.vars) (start p).rows
start-rows_fit p ok = All-append (IsTableRow p.vars) (variable_rows p.vars) (map surplus_row p.rows)
    (All-map (IsTableRow p.vars) (variable_row p.vars) (numbers_from 0 p.vars)
    (λ i d h. record { den_pos = lt_z_yes tt; one_each = length-unit_vector p.vars (get_or (numbers_from 0 p.vars) i d) }))
    (All-map (IsTableRow p.vars) surplus_row p.rows (All-weaker (IsRow p.vars) (λ row. IsTableRow p.vars (surplus_row row))
    (λ row fits. record { den_pos = lt_z_yes tt; one_each = fits.one_each }) p.rows ok.rows_fit))

-- the cost's equation
start-cost_holds : (p : ProblemData) (x : List ℤ) (n : ℤ) → Holds (dot p.cost x) x n (start p).cost
start-cost_holds p x n = ring2 (λ d n. con (pos 1) ⊗ d ≗ con (pos 0) ⊗ n ⊕ d) refl (dot p.cost x) n

-- the first tableau of a problem is one of the problem
pub start_is : (p : ProblemData) → IsProblem p → IsTableauOf p (start p)
start_is p ok =
    let rows : length (start p).rows ≡ p.vars + length p.rows = length-append (variable_rows p.vars) (map surplus_row p.rows)
    ∙ ap₂ (λ a b. a + b) (length-variable_rows p.vars) (length-map p.rows surplus_row) in
    record {
      one_column_each = length-numbers_from 0 p.vars;
      one_row_each = rows;
      columns_below = All-from_get_or (λ c. c < length (start p).rows) (numbers_from 0 p.vars) 0 (λ i h. let l : i < p.vars =
          omega (arith, length-numbers_from 0 p.vars) in omega (arith, get_or-numbers_from 0 p.vars i 0 l, rows));
      cost_fits = record { den_pos = lt_z_yes tt; one_each = ok.one_each };
      rows_fit = start-rows_fit p ok;
      cost_holds = λ x n wide. subst (λ us. Holds (dot p.cost x) us n (start p).cost) (sym (nonbasic-start x (map (surplus x n) p.rows) p.vars wide))
          (start-cost_holds p x n);
      rows_hold = λ x n wide. subst (λ us. AllHold (quantities p x n) us n (start p).rows) (sym (nonbasic-start x (map (surplus x n) p.rows) p.vars wide))
          (AllHold-append x n x (map (surplus x n) p.rows) (variable_rows p.vars) (map surplus_row p.rows) (variable_rows-hold p.vars x n wide)
          (surplus_rows-hold p.rows x n));
      independent = λ d wide zero_each. variable_rows-independent p.vars d wide
          (subst (λ rows. All (λ (row : TableRow). dot row.coefs d ≡ pos 0) rows) (take-start_rows p) zero_each);
      columns_positive = start-column_positive p ok;
    }
