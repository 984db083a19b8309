-- Linear problems in whole numbers: the points that meet one, the least of them, and certificates that bound the cost
-- or refute all points.
use Rattle.std.specs.Prelude.{◌≡◌, ℕ, ◌<◌, List, length, map, replicate, [], slice_index_or, ℤ, pos, ◌*ℤ◌, ◌≤ℤ◌, ◌<ℤ◌, All, ◌∷◌}
use Rattle.std.specs.List.Sorted.{IsStrictlyIncreasing}
use Rattle.frac128.specs.Range.{IsInRange}
use Rattle.frac128.specs.declared.problem.Cert.{Cert}
use Rattle.frac128.specs.declared.problem.Row.{Row}
use Rattle.integers.specs.Fraction.{Fraction, IsFraction, SameFraction, FractionAtMost, over}
use Rattle.integers.specs.Lexicographic.{LexLess}
use Rattle.integers.specs.Vector.{dot, scale, add, weighted_sum, AreNonNegative, AreAtMost}

-- the least cost·x with x ≥ 0, one number of x for each variable, and coefs·x ≥ bound for each row
pub record ProblemData : Type 0 where
  pub vars : ℕ
  pub cost : List ℤ
  pub rows : List Row

-- the problem of these data
abbrev pub problem_of : ℕ → List ℤ → List Row → ProblemData
problem_of vars cost rows = record { vars = vars; cost = cost; rows = rows }

-- one number in range for each variable, and a bound in range
pub record IsRow (vars : ℕ) (row : Row) : Type 0 where
  pub one_each : length row.coefs ≡ vars
  pub coefs_in_range : All IsInRange row.coefs
  pub bound_in_range : IsInRange row.bound

-- one cost for each variable, none below 0, and rows over the same variables, with all numbers in range
pub record IsProblem (p : ProblemData) : Type 0 where
  pub one_each : length p.cost ≡ p.vars
  pub cost_nonneg : AreNonNegative p.cost
  pub cost_in_range : All IsInRange p.cost
  pub rows_fit : All (IsRow p.vars) p.rows

-- ---- points: x over n is the list of the fractions of each number of x over n

-- the point x over n meets the row: coefs·x / n ≥ bound
abbrev pub IsRowMetBy : List ℤ → ℤ → Row → Type 0
IsRowMetBy x n row = (row.bound *ℤ n) ≤ℤ dot row.coefs x

-- the point x over n meets the problem
pub record IsFeasible (p : ProblemData) (x : List ℤ) (n : ℤ) : Type 0 where
  pub den_pos : pos 0 <ℤ n
  pub one_each : length x ≡ p.vars
  pub nonneg : AreNonNegative x
  pub meets : All (IsRowMetBy x n) p.rows

-- no point meets the problem
abbrev pub IsInfeasible : ProblemData → Type 0
IsInfeasible p = (x : List ℤ) (n : ℤ) → ¬ IsFeasible p x n

-- the cost of the point x over n
abbrev pub cost_at : ProblemData → List ℤ → ℤ → Fraction
cost_at p x n = record { num = dot p.cost x; den = n }

-- each point that meets the problem costs at least the value
abbrev pub IsLowerBound : ProblemData → Fraction → Type 0
IsLowerBound p value = (x : List ℤ) (n : ℤ) → IsFeasible p x n → FractionAtMost value (cost_at p x n)

-- the cost of the point x over n and then each of its numbers, by which points are ordered
abbrev pub cost_and_numbers : ProblemData → List ℤ → ℤ → List Fraction
cost_and_numbers p x n = over (dot p.cost x ∷ x) n

-- x over n meets the problem, and no point that meets it comes before by its cost and, at equal costs, its numbers
pub record IsLeast (p : ProblemData) (x : List ℤ) (n : ℤ) : Type 0 where
  pub feasible : IsFeasible p x n
  pub none_before : (y : List ℤ) (m : ℤ) → IsFeasible p y m
      → ¬ LexLess (cost_and_numbers p y m) (cost_and_numbers p x n)

-- ---- certificates: rows by position, from 0 on, each with its multiplier

-- the positions rise, each is one of a row, and no multiplier is below 0
pub record AreRowMultipliers (count : ℕ) (on : List (ℕ × ℤ)) : Type 0 where
  pub positions_rise : IsStrictlyIncreasing (map (λ (e : ℕ × ℤ). e.0) on)
  pub positions_below : All (λ (e : ℕ × ℤ). e.0 < count) on
  pub nonneg : All (λ (e : ℕ × ℤ). pos 0 ≤ℤ e.1) on

-- the row at a position, which is without effect past the last one
abbrev pub row_at : List Row → ℕ → Row
row_at rows k = slice_index_or rows k (record { coefs = []; bound = pos 0 })

-- the multipliers
abbrev pub multipliers : List (ℕ × ℤ) → List ℤ
multipliers on = map (λ (e : ℕ × ℤ). e.1) on

-- the rows at the positions
abbrev pub rows_on : List Row → List (ℕ × ℤ) → List Row
rows_on rows on = map (λ (e : ℕ × ℤ). row_at rows e.0) on

-- the sum of the rows, each times its multiplier: one coefficient for each variable, and a bound
abbrev pub combination : ProblemData → List (ℕ × ℤ) → Row
combination p on = record {
  coefs = add (replicate p.vars (pos 0))
      (weighted_sum (multipliers on) (map (λ (r : Row). r.coefs) (rows_on p.rows on)));
  bound = dot (multipliers on) (map (λ (r : Row). r.bound) (rows_on p.rows on));
}

-- a combination of rows with coefficients at most den times the costs, and with the bound den times the value
pub record IsSpanCertificate (p : ProblemData) (cert : Cert) (value : Fraction) : Type 0 where
  pub den_pos : pos 0 <ℤ cert.den
  pub value_den_pos : IsFraction value
  pub entries : AreRowMultipliers (length p.rows) cert.on
  pub below_cost : AreAtMost (combination p cert.on).coefs (scale cert.den p.cost)
  pub value_is : SameFraction (record { num = (combination p cert.on).bound; den = cert.den }) value

-- a combination of rows with no coefficient above 0 and with a bound above 0
pub record IsFarkasCertificate (p : ProblemData) (cert : Cert) : Type 0 where
  pub entries : AreRowMultipliers (length p.rows) cert.on
  pub none_above : All (λ c. c ≤ℤ pos 0) (combination p cert.on).coefs
  pub bound_above : pos 0 <ℤ (combination p cert.on).bound
