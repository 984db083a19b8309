-- The dominance test: whether leads dominate, from their least gaps and the weights, mostly without a run.
use Rattle.std.specs.Prelude.{◌⊎◌, ◌↔◌, ℕ, ℤ, pos, ◌≤ℤ◌, Bool, true, false, IsTrue, int_lt, List, [], ◌∷◌, Result, Ok, Err}
use Rattle.frac128.specs.Checked.{checked_sum}
use Rattle.frac128.specs.declared.number.TooWide.{TooWide}
use Rattle.integers.specs.Fraction.{Fraction, fraction_of}
use Rattle.integers.specs.Vector.{dot}
use Rattle.judgement_matrix.specs.Matrix.{Judgements}
use Rattle.lp_macbeth.specs.ClosedWeighting.{in_order}
use Rattle.open_dominance.specs.Open.{IsClosureWeighting}
use Rattle.open_dominance.specs.Weighing.{AreOrdered, IsMinimum}
use Rattle.open_dominance.specs.declared.weighing.WeightingMinimum.{WeightingMinimum}
use Rattle.swing_weights.specs.Score.{checked_score}
use Rattle.value_scale.specs.declared.fault.ScaleFault.{ScaleFault}
use Rattle.value_scale.specs.declared.fault.ScaleFault.TheVariants as fault

-- no weighting of the closure gives the numbers of the criteria, which stand in the order of the model, a sum below 0
abbrev pub IsNeverBelow : Judgements → List ℕ → List Fraction → Type 0
IsNeverBelow m order gaps = (k : List ℤ) (n : ℤ) → IsClosureWeighting m k n → (g : List ℤ) (d : ℤ) → AreOrdered order gaps g d
    → pos 0 ≤ℤ dot k g

-- the weights, which stand in the order of the model, are a weighting of the closure, however they are written
abbrev pub AreClosureWeights : Judgements → List ℕ → List Fraction → Type 0
AreClosureWeights m order weights = (k : List ℤ) (n : ℤ) → AreOrdered order weights k n → IsClosureWeighting m k n

-- ---- what the first two steps decide

-- the fraction is below 0
abbrev pub is_below_zero : Fraction → Bool
is_below_zero f = int_lt f.num (pos 0)

-- s and then each fraction, added one after another: all of the sums can be worked, and none is below 0
unfoldable pub sums_stay : Fraction → List Fraction → Bool
sums_stay s [] = true
sums_stay s (f ∷ fs) = elim (checked_sum s f) [
  | Ok sum ↦ elim (is_below_zero sum) [ true ↦ false | false ↦ sums_stay sum fs ]
  | Err e ↦ false
]

-- the sums of the numbers along the order of the weighting, from 0 on
abbrev pub is_above_by_sums : List ℕ → List Fraction → Bool
is_above_by_sums order gaps = sums_stay (fraction_of (pos 0)) (in_order (fraction_of (pos 0)) order gaps)

-- the result is a fraction below 0
abbrev pub gives_below : Result Fraction TooWide → Bool
gives_below (Ok score) = is_below_zero score
gives_below (Err e) = false

-- the weighted sum by these weights, as a score is worked
abbrev pub is_below_by_weights : List Fraction → List Fraction → Bool
is_below_by_weights weights gaps = gives_below (checked_score weights gaps)

-- one of the two steps decides
abbrev pub IsDecided : List ℕ → List Fraction → List Fraction → Type 0
IsDecided order weights gaps = IsTrue (is_above_by_sums order gaps) ⊎ IsTrue (is_below_by_weights weights gaps)

-- ---- the answer

-- true exactly where no sum is ever below 0; too wide exactly where the two steps decide nothing and the weighting minimum is too wide
abbrev pub IsTested : Judgements → List ℕ → List Fraction → List Fraction → Result Bool ScaleFault → Type 0
IsTested m order weights gaps (Ok above) = (IsTrue above ↔ IsNeverBelow m order gaps)
    × (IsDecided order weights gaps ⊎ ((minimum : WeightingMinimum) × IsMinimum m order gaps (Ok minimum)))
IsTested m order weights gaps (Err fault.TooWide) = (¬ IsDecided order weights gaps) × IsMinimum m order gaps (Err fault.TooWide)
IsTested m order weights gaps (Err fault.NoMemory) = Unit {0}
