-- Which of two scales is the smaller one, and the least scale of a matrix (the tie rule is this project's own).
use Rattle.std.specs.Prelude.{ℤ, List, [], ◌∷◌, drop, reverse}
use Rattle.integers.specs.Fraction.{over}
use Rattle.integers.specs.Lexicographic.{LexLess}
use Rattle.judgement_matrix.specs.Matrix.{Judgements}
use Rattle.judgement_matrix.specs.Scale.{IsMetBy}

-- the numbers by which scales are ordered: that of element 1, then those of the last but one and upwards to element 2
abbrev pub order_key : List ℤ → List ℤ
order_key [] = []
order_key (x ∷ xs) = x ∷ drop 1 (reverse xs)

-- the scale w over n is smaller than v over k
abbrev pub IsSmaller : List ℤ → ℤ → List ℤ → ℤ → Type 0
IsSmaller w n v k = LexLess (over (order_key w) n) (over (order_key v) k)

-- the scale w over n meets the judgements, and none that does is smaller
pub record IsLeastScale (m : Judgements) (w : List ℤ) (n : ℤ) : Type 0 where
  pub is_met : IsMetBy m w n
  pub none_smaller : (v : List ℤ) (k : ℤ) → IsMetBy m v k → ¬ IsSmaller v k w n
