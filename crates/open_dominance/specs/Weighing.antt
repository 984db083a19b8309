-- The weighting minimum: the least weighted sum of numbers for the criteria over the closure of the open weightings.
use Rattle.std.specs.Prelude.{◌≡◌, ◌⊎◌, ℕ, ◌-◌, ◌≤◌, ℤ, pos, ◌*ℤ◌, List, length, take, All, IsTrue, Result, Ok, Err}
use Rattle.std.specs.Result.{is_err}
use Rattle.frac128.specs.Checked.{◌>>=◌, checked_sum, checked_quotient}
use Rattle.frac128.specs.Frac.{IsReduced}
use Rattle.frac128.specs.Problem.{ProblemData, IsSpanCertificate}
use Rattle.frac128.specs.declared.number.TooWide.{TooWide as Wide}
use Rattle.integers.specs.Counting.{IsOrder}
use Rattle.integers.specs.Fraction.{Fraction, FractionAtMost, SameFraction, IsWriting, fraction_of}
use Rattle.integers.specs.Vector.{dot}
use Rattle.judgement_matrix.specs.Matrix.{Judgements}
use Rattle.lex_simplex.specs.Answer.{IsLeastAnswer}
use Rattle.lex_simplex.specs.declared.end.End.TheVariants.{Optimal}
use Rattle.lex_simplex.specs.declared.end.PivotFault.TheVariants as pivot
use Rattle.lp_macbeth.specs.ClosedThreshold.{weighting_thresholds_of}
use Rattle.lp_macbeth.specs.ClosedWeighting.{checked_weighting, in_order}
use Rattle.lp_macbeth.specs.declared.weighting.ClosedWeighting.{ClosedWeighting}
use Rattle.open_dominance.specs.Gap.{RunEnds}
use Rattle.open_dominance.specs.Open.{IsClosureWeighting}
use Rattle.open_dominance.specs.declared.weighing.WeightingMinimum.{WeightingMinimum}
use Rattle.swing_weights.specs.Weights.{swings}
use Rattle.value_scale.specs.GapSums.{checked_values}
use Rattle.value_scale.specs.declared.fault.ScaleFault.{ScaleFault}
use Rattle.value_scale.specs.declared.fault.ScaleFault.TheVariants as fault

-- ---- what it is

-- some weighting is in the closure
abbrev pub HasClosureWeighting : Judgements → Type 0
HasClosureWeighting m = (k : List ℤ) × ((d : ℤ) × IsClosureWeighting m k d)

-- the numbers of the criteria, which stand in the order of the model, are g over d in the order of the weighting
abbrev pub AreOrdered : List ℕ → List Fraction → List ℤ → ℤ → Type 0
AreOrdered order gaps g d = IsWriting (in_order (fraction_of (pos 0)) order gaps) g d

-- the sum of weights k over n times numbers g over d
abbrev pub weighted : List ℤ → ℤ → List ℤ → ℤ → Fraction
weighted k n g d = record { num = dot k g; den = n *ℤ d }

-- the weights are a weighting of the closure by which the sum is so great, and by none it is less
pub record IsLeastWeighting (m : Judgements) (order : List ℕ) (gaps : List Fraction) (least : Fraction) (weights : List Fraction)
    : Type 0 where
  pub at : List ℤ
  pub over : ℤ
  pub written : IsWriting weights at over
  pub among : IsClosureWeighting m at over
  pub attained : (g : List ℤ) (d : ℤ) → AreOrdered order gaps g d → SameFraction (weighted at over g d) least
  pub none_below : (k : List ℤ) (n : ℤ) → IsClosureWeighting m k n → (g : List ℤ) (d : ℤ) → AreOrdered order gaps g d
      → FractionAtMost least (weighted k n g d)

-- ---- how it is worked

-- the closed problem is worked from the numbers, one for each criterion, and the order
pub record IsWeightingOf (m : Judgements) (order : List ℕ) (gaps : List Fraction) (closed : ClosedWeighting) : Type 0 where
  pub each : length gaps ≡ m.size - 1
  pub some : 1 ≤ length gaps
  pub order_is : IsOrder (length gaps) order
  pub made : checked_weighting m order gaps ≡ Ok closed

-- the value of the closed problem over its scale, and the least number; and the weights of the point's gaps
unfoldable pub checked_minimum : ClosedWeighting → Fraction → List Fraction → Result (Fraction × List Fraction) Wide
checked_minimum closed value gaps = do
  share ← checked_quotient value (fraction_of closed.scale)
  least ← checked_sum share closed.least
  values ← checked_values gaps
  Ok (least, swings values)

-- ---- how it is found

-- the threshold form of the closed problem
abbrev pub weighting_form : Judgements → ClosedWeighting → ProblemData
weighting_form m closed = weighting_thresholds_of m closed.problem.cost

-- worked from the value and the gaps of the form's least point, which are taken in lowest terms
pub record IsWorkedMinimum (m : Judgements) (closed : ClosedWeighting) (value : Fraction) (worked : Result (Fraction × List Fraction) Wide)
    : Type 0 where
  pub point : List Fraction
  pub is : IsLeastAnswer (weighting_form m closed) point value
  pub are : checked_minimum closed value (take (m.size - 1) point) ≡ worked

-- the least weighted sum: what it is, a certificate of the closed problem's value on its own rows, and how it was worked
pub record IsMinimumBy (m : Judgements) (order : List ℕ) (gaps : List Fraction) (closed : ClosedWeighting) (minimum : WeightingMinimum)
    : Type 0 where
  pub means : IsLeastWeighting m order gaps minimum.least minimum.weights
  pub least_reduced : IsReduced minimum.least
  pub weights_reduced : All IsReduced minimum.weights
  pub proof : IsSpanCertificate closed.problem minimum.cert minimum.value
  pub worked : IsWorkedMinimum m closed minimum.value (Ok (minimum.least, minimum.weights))

-- what is read from the outcome of a run that found a least point
abbrev pub IsReadMinimum : Judgements → List ℕ → List Fraction → ClosedWeighting → Result WeightingMinimum ScaleFault → Type 0
IsReadMinimum m order gaps closed (Ok minimum) = IsMinimumBy m order gaps closed minimum
IsReadMinimum m order gaps closed (Err fault.TooWide) = (value : Fraction) × IsWorkedMinimum m closed value (Err (record {}))
IsReadMinimum m order gaps closed (Err fault.NoMemory) = Unit {0}

-- what is found by this closed problem
abbrev pub IsMinimumFound : Judgements → List ℕ → List Fraction → ClosedWeighting → Result WeightingMinimum ScaleFault → Type 0
IsMinimumFound m order gaps closed (Ok minimum) = RunEnds (weighting_form m closed) (Ok Optimal) × IsMinimumBy m order gaps closed minimum
IsMinimumFound m order gaps closed (Err fault.TooWide) = RunEnds (weighting_form m closed) (Err pivot.TooWide)
    ⊎ (RunEnds (weighting_form m closed) (Ok Optimal) × ((value : Fraction) × IsWorkedMinimum m closed value (Err (record {}))))
IsMinimumFound m order gaps closed (Err fault.NoMemory) = Unit {0}

-- the weighting minimum; it is too wide exactly where its closed problem is, or the run of that, or what is worked from its least point
abbrev pub IsMinimum : Judgements → List ℕ → List Fraction → Result WeightingMinimum ScaleFault → Type 0
IsMinimum m order gaps (Ok minimum) = (closed : ClosedWeighting) × ((checked_weighting m order gaps ≡ Ok closed)
    × IsMinimumFound m order gaps closed (Ok minimum))
IsMinimum m order gaps (Err fault.TooWide) = IsTrue (is_err (checked_weighting m order gaps))
    ⊎ ((closed : ClosedWeighting) × ((checked_weighting m order gaps ≡ Ok closed) × IsMinimumFound m order gaps closed (Err fault.TooWide)))
IsMinimum m order gaps (Err fault.NoMemory) = Unit {0}
