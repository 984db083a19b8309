-- What is read from the last tableau of a run.
use Rattle.std.specs.Prelude.{◌≡◌, ℕ, All, List, [], ◌∷◌, set, drop, length, replicate, ℤ, pos, negsuc}
use Rattle.frac128.specs.Problem.{ProblemData, IsLeast, IsInfeasible, IsSpanCertificate, IsFarkasCertificate, cost_at}
use Rattle.frac128.specs.Entries.{entries_from}
use Rattle.frac128.specs.Frac.{IsReduced}
use Rattle.lex_simplex.specs.declared.end.End.{End}
use Rattle.lex_simplex.specs.declared.end.End.TheVariants.{Optimal, Empty}
use Rattle.lex_simplex.specs.declared.outcome.Outcome.{Outcome}
use Rattle.lex_simplex.specs.declared.outcome.Outcome.TheVariants.{Least, Nothing}
use Rattle.integers.specs.Fraction.{Fraction, over, SameFraction, SameFractions}
use Rattle.integers.specs.Vector.{scale}
use Rattle.lex_simplex.specs.Tableau.{Tableau, row_of}

-- the fractions are the numbers of the least point
pub record IsLeastPoint (p : ProblemData) (fs : List Fraction) : Type 0 where
  pub x : List ℤ
  pub n : ℤ
  pub same : SameFractions (over x n) fs
  pub least : IsLeast p x n

-- they are that and its cost, in lowest terms
pub record IsLeastAnswer (p : ProblemData) (point : List Fraction) (value : Fraction) : Type 0 where
  pub is : IsLeastPoint p point
  pub cost : SameFraction (cost_at p is.x is.n) value
  pub point_reduced : All IsReduced point
  pub value_reduced : IsReduced value

-- what the outcome says of the problem is so; a refutation is in whole numbers
abbrev pub IsOutcome : ProblemData → Outcome → Type 0
IsOutcome p (Least point value cert) = IsLeastAnswer p point value × IsSpanCertificate p cert value
IsOutcome p (Nothing cert) = IsInfeasible p × IsFarkasCertificate p cert × (cert.den ≡ pos 1)

-- the end of the run that the outcome tells
abbrev pub end_of : Outcome → End
end_of (Least point value cert) = Optimal
end_of (Nothing cert) = Empty

-- weights of quantities, with each column's number at the place of its quantity
abbrev pub spread_weights : List ℕ → List ℤ → List ℤ → List ℤ
spread_weights [] ys weights = weights
spread_weights (c ∷ cs) [] weights = weights
spread_weights (c ∷ cs) (y ∷ ys) weights = spread_weights cs ys (set weights c y)

-- the weights of the problem's rows, which stand after those of the variables
abbrev pub row_entries : ℕ → List ℤ → List (ℕ × ℤ)
row_entries vars weights = entries_from 0 (drop vars weights)

-- with these weights the quantities sum to the cost row's equation
abbrev pub optimal_weights : Tableau → List ℤ
optimal_weights t = spread_weights t.columns t.cost.coefs (replicate (length t.rows) (pos 0))

-- with these the quantities sum to the equation of the row r
abbrev pub empty_weights : Tableau → ℕ → List ℤ
empty_weights t r = set (spread_weights t.columns (scale (negsuc 0) (row_of t r).coefs)
    (replicate (length t.rows) (pos 0))) r (row_of t r).den
