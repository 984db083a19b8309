-- What a tableau says of its problem: each row is an equation that holds at each point.
use Rattle.std.specs.Prelude.{◌≡◌, ℕ, ◌+◌, ◌<◌, List, [], ◌∷◌, ◌++◌, map, take, length, get_or, ℤ, pos, ◌+ℤ◌, ◌-ℤ◌, ◌*ℤ◌, ◌<ℤ◌, All, ⊤}
use Rattle.frac128.specs.Problem.{ProblemData}
use Rattle.frac128.specs.declared.problem.Row.{Row}
use Rattle.integers.specs.Lexicographic.{IsLexPositive}
use Rattle.integers.specs.Vector.{dot, AreZero}
use Rattle.lex_simplex.specs.Tableau.{TableRow, Tableau, column}

-- n times the row's surplus at the point x over n
abbrev pub surplus : List ℤ → ℤ → Row → ℤ
surplus x n row = dot row.coefs x -ℤ row.bound *ℤ n

-- n times each quantity at the point x over n
abbrev pub quantities : ProblemData → List ℤ → ℤ → List ℤ
quantities p x n = x ++ map (surplus x n) p.rows

-- of these the nonbasic ones, for which the columns stand
abbrev pub nonbasic : List ℕ → List ℤ → List ℤ
nonbasic columns qs = map (λ c. get_or qs c (pos 0)) columns

-- the row's equation, for n times its quantity q and n times the columns' quantities us
abbrev pub Holds : ℤ → List ℤ → ℤ → TableRow → Type 0
Holds q us n row = row.den *ℤ q ≡ row.constant *ℤ n +ℤ dot row.coefs us

-- as many rows as quantities, and each row's equation
abbrev pub AllHold : List ℤ → List ℤ → ℤ → List TableRow → Type 0
AllHold [] us n [] = ⊤
AllHold [] us n (row ∷ rows) = ⊥
AllHold (q ∷ qs) us n [] = ⊥
AllHold (q ∷ qs) us n (row ∷ rows) = Holds q us n row × AllHold qs us n rows

-- a positive denominator, and a coefficient for each column
pub record IsTableRow (vars : ℕ) (row : TableRow) : Type 0 where
  pub den_pos : pos 0 <ℤ row.den
  pub one_each : length row.coefs ≡ vars

-- a tableau of the problem: as many columns as variables, each of a quantity; rows that hold at each point; columns
-- that are independent over the variables' rows, and lexicographically positive over the cost's and the variables'
pub record IsTableauOf (p : ProblemData) (t : Tableau) : Type 0 where
  pub one_column_each : length t.columns ≡ p.vars
  pub one_row_each : length t.rows ≡ p.vars + length p.rows
  pub columns_below : All (λ c. c < length t.rows) t.columns
  pub cost_fits : IsTableRow p.vars t.cost
  pub rows_fit : All (IsTableRow p.vars) t.rows
  pub cost_holds : (x : List ℤ) (n : ℤ) → length x ≡ p.vars
      → Holds (dot p.cost x) (nonbasic t.columns (quantities p x n)) n t.cost
  pub rows_hold : (x : List ℤ) (n : ℤ) → length x ≡ p.vars
      → AllHold (quantities p x n) (nonbasic t.columns (quantities p x n)) n t.rows
  pub independent : (d : List ℤ) → length d ≡ p.vars
      → All (λ (row : TableRow). dot row.coefs d ≡ pos 0) (take p.vars t.rows) → AreZero d
  pub columns_positive : (e : ℕ) → e < p.vars → IsLexPositive (column t e)
