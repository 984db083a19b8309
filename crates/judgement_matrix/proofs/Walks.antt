-- What is left of a walk over pairs.
use Rattle.std.specs.Prelude.{ℕ, List}
use Rattle.std.specs.List.{AllByRecursion}
use Rattle.judgement_matrix.specs.Matrix.{IsPair}

-- each of these is a pair of n elements
abbrev pub AllPairsOf : ℕ → List (ℕ × ℕ) → Type 0
AllPairsOf n ps = AllByRecursion (λ pair. IsPair n pair.0 pair.1) ps
