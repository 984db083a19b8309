-- Tableaus: the cost and each quantity of a problem, as a constant and multiples of some of the quantities. A
-- quantity is a variable, or the surplus of a row, coefs·x - bound. It is named by its place: first the variables,
-- then the rows. In the field's words the quantities that columns stand for are nonbasic, the coefficients of the
-- cost's row are the reduced costs, and a row with a negative constant is an infeasible one.
use Rattle.std.specs.Prelude.{ℕ, List, ◌∷◌, ◌++◌, map, take, length, get_or, ℤ, pos, neg_ℤ, [], slice_index_or}
use Rattle.frac128.specs.Problem.{ProblemData}
use Rattle.frac128.specs.declared.problem.Row.{Row}
use Rattle.integers.specs.Counting.{numbers_from}
use Rattle.integers.specs.Fraction.{Fraction}
use Rattle.integers.specs.Vector.{unit_vector}

-- den times a quantity is the constant and the coefficients times the columns' quantities
pub record TableRow : Type 0 where
  pub den : ℤ
  pub constant : ℤ
  pub coefs : List ℤ

-- the row of the cost, the row of each quantity, and for each column the quantity that it stands for
pub record Tableau : Type 0 where
  pub cost : TableRow
  pub rows : List TableRow
  pub columns : List ℕ

-- the variable j is itself
abbrev pub variable_row : ℕ → ℕ → TableRow
variable_row vars j = record { den = pos 1; constant = pos 0; coefs = unit_vector vars j }

-- the surplus of a row of the problem
abbrev pub surplus_row : Row → TableRow
surplus_row row = record { den = pos 1; constant = neg_ℤ row.bound; coefs = row.coefs }

-- the tableau of a problem whose columns are its variables
abbrev pub start : ProblemData → Tableau
start p = record {
  cost = record { den = pos 1; constant = pos 0; coefs = p.cost };
  rows = map (variable_row p.vars) (numbers_from 0 p.vars) ++ map surplus_row p.rows;
  columns = numbers_from 0 p.vars;
}

-- a row without effect
abbrev pub no_row : TableRow
no_row = record { den = pos 1; constant = pos 0; coefs = [] }

-- the row of a quantity, which is without effect past the last one
abbrev pub row_of : Tableau → ℕ → TableRow
row_of t r = slice_index_or t.rows r no_row

-- a row's coefficient in the column e
abbrev pub entry : TableRow → ℕ → ℤ
entry row e = get_or row.coefs e (pos 0)

-- the rows that order columns and points: that of the cost, then those of the variables
abbrev pub ordering_rows : Tableau → List TableRow
ordering_rows t = t.cost ∷ take (length t.columns) t.rows

-- the one at a place
abbrev pub ordering_row : Tableau → ℕ → TableRow
ordering_row t i = get_or (ordering_rows t) i no_row

-- the column e over these rows
abbrev pub column : Tableau → ℕ → List ℤ
column t e = map (λ (row : TableRow). entry row e) (ordering_rows t)

-- the row's quantity where the columns' quantities are 0
abbrev pub value_of : TableRow → Fraction
value_of row = record { num = row.constant; den = row.den }

-- the cost and the variables where the columns' quantities are 0
abbrev pub values : Tableau → List Fraction
values t = map value_of (ordering_rows t)
