-- Two options by their elements: on each criterion the least difference of the two.
use Rattle.std.specs.Prelude.{ℕ, ◌≤◌, ℤ, pos, ◌≤ℤ◌, List, map}
use Rattle.integers.specs.Fraction.{Fraction, IsFraction}
use Rattle.integers.specs.Vector.{dot}
use Rattle.judgement_matrix.specs.Matrix.{Judgements}
use Rattle.model_core.specs.State.{CriterionState}
use Rattle.open_dominance.specs.Dominance.{Ground}
use Rattle.open_dominance.specs.Gap.{references_of, IsLeastDifference}
use Rattle.open_dominance.specs.Open.{IsClosureWeighting}

-- a criterion, the elements of two options on it, and a fraction
pub record Compared : Type 0 where
  pub criterion : CriterionState
  pub upper : ℕ
  pub lower : ℕ
  pub least : Fraction

-- what the criteria ask of their scales, and the elements of the two options, and the fractions
abbrev pub grounds : List Compared → List Ground
grounds xs = map (λ x. record { matrix = x.criterion.matrix; refs = references_of x.criterion }) xs

abbrev pub uppers : List Compared → List ℕ
uppers xs = map (λ x. x.upper) xs

abbrev pub lowers : List Compared → List ℕ
lowers xs = map (λ x. x.lower) xs

abbrev pub leasts : List Compared → List Fraction
leasts xs = map (λ x. x.least) xs

-- the two are elements of the criterion, and the fraction is the least difference of the first over the second
pub record IsLeastCompared (x : Compared) : Type 0 where
  pub upper_is : (1 ≤ x.upper) × (x.upper ≤ x.criterion.matrix.size)
  pub lower_is : (1 ≤ x.lower) × (x.lower ≤ x.criterion.matrix.size)
  pub fraction : IsFraction x.least
  pub values : List Fraction
  pub least : IsLeastDifference x.criterion x.upper x.lower x.least values

-- no weighting of the closure gives the numbers, in the order of the weighting, a sum below 0
abbrev pub HasNoSumBelow : Judgements → List ℤ → Type 0
HasNoSumBelow m g = (k : List ℤ) (n : ℤ) → IsClosureWeighting m k n → pos 0 ≤ℤ dot k g
