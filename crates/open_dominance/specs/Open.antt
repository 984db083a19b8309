-- Open scales and open weightings: all lists that the judgements and the references allow, whatever the unit, and the
-- closure of these, where the unit may be 0.
use Rattle.std.specs.Prelude.{◌≡◌, ℕ, ◌<◌, ◌≤◌, ℤ, pos, ◌-ℤ◌, ◌*ℤ◌, ◌≤ℤ◌, ◌<ℤ◌, List, [], ◌∷◌, ◌++◌, length, map}
use Rattle.integers.specs.Vector.{scale, add, int_sum, AreNonNegative}
use Rattle.judgement_matrix.specs.Matrix.{Judgements, IsPair, range_at}
use Rattle.judgement_matrix.specs.Scale.{value_at, difference, IsScale, IsMetInUnit}

-- the judgements are met in some unit above 0, in some writing of the numbers
pub record IsMetOpenly (m : Judgements) (v : List ℤ) : Type 0 where
  pub factor : ℤ
  pub unit : ℤ
  pub factor_pos : pos 0 <ℤ factor
  pub unit_pos : pos 0 <ℤ unit
  pub meets : IsMetInUnit m unit (scale factor v)

-- the same with no unit: each difference that has a bound above 0 is above 0, and none is below 0
pub record AreOpenDifferences (m : Judgements) (v : List ℤ) : Type 0 where
  pub zero : (p q : ℕ) → IsPair m.size p q → (range_at m p q).hi ≡ 0 → difference v p q ≤ℤ pos 0
  pub above : (p q : ℕ) → IsPair m.size p q → 1 ≤ (range_at m p q).lo → pos 0 <ℤ difference v p q
  pub none_below : (p q : ℕ) → IsPair m.size p q → pos 0 ≤ℤ difference v p q
  pub cross : (p q x y : ℕ) → IsPair m.size p q → IsPair m.size x y
      → (range_at m x y).hi < (range_at m p q).lo → pos 0 <ℤ (difference v p q -ℤ difference v x y)

-- the closure: no difference that has a bound of at least 0 is below 0
abbrev pub IsMetInClosure : Judgements → List ℤ → Type 0
IsMetInClosure m v = IsMetInUnit m (pos 0) v

-- what a criterion asks of its scales beside the judgements: the references and the reach
pub record References : Type 0 where
  pub good : ℕ
  pub neutral : ℕ
  pub reach : ℕ

-- a number for each element over a positive denominator, good at 100, neutral at 0, the span within the reach
pub record IsWithinReach (m : Judgements) (refs : References) (v : List ℤ) (n : ℤ) : Type 0 where
  pub den_pos : pos 0 <ℤ n
  pub each : length v ≡ m.size
  pub good_is : value_at v refs.good ≡ pos 100 *ℤ n
  pub neutral_is : value_at v refs.neutral ≡ pos 0
  pub reached : difference v 1 m.size ≤ℤ (pos refs.reach *ℤ n)

-- v over n is an open scale
pub record IsOpenScale (m : Judgements) (refs : References) (v : List ℤ) (n : ℤ) : Type 0 where
  pub within : IsWithinReach m refs v n
  pub opened : IsMetOpenly m v

-- v over n is a scale of the closure
pub record IsClosureScale (m : Judgements) (refs : References) (v : List ℤ) (n : ℤ) : Type 0 where
  pub within : IsWithinReach m refs v n
  pub closed : IsMetInClosure m v

-- k over d are weights: none below 0, of sum 1, one for each element but the last
pub record AreWeights (m : Judgements) (k : List ℤ) (d : ℤ) : Type 0 where
  pub scale : IsScale m (k ++ pos 0 ∷ []) d
  pub nonneg : AreNonNegative k
  pub sum : int_sum k ≡ d

-- k over d is an open weighting: with 0 added last it meets the judgements in some unit above 0
pub record IsOpenWeighting (m : Judgements) (k : List ℤ) (d : ℤ) : Type 0 where
  pub weights : AreWeights m k d
  pub opened : IsMetOpenly m (k ++ pos 0 ∷ [])

-- k over d is a weighting of the closure
pub record IsClosureWeighting (m : Judgements) (k : List ℤ) (d : ℤ) : Type 0 where
  pub weights : AreWeights m k d
  pub closed : IsMetInClosure m (k ++ pos 0 ∷ [])

-- each number less that of an element, which then has 0
abbrev pub lowered : List ℤ → ℕ → List ℤ
lowered w e = map (λ x. x -ℤ value_at w e) w

-- a times one list and b times another
abbrev pub mix : ℤ → List ℤ → ℤ → List ℤ → List ℤ
mix a v b w = add (scale a v) (scale b w)
