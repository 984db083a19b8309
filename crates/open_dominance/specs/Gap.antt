-- The least gap of a criterion: the least difference of two elements over the closure of its open scales, and how it is found.
use Rattle.std.specs.Prelude.{◌≡◌, ◌⊎◌, ℕ, ◌-◌, ℤ, pos, ◌*ℤ◌, ◌≤ℤ◌, List, [], ◌∷◌, take, All, Some, None, nat_lt, Result, Ok, Err, if◌then◌else◌}
use Rattle.frac128.specs.Checked.{◌>>=◌, checked_difference}
use Rattle.frac128.specs.Frac.{IsReduced}
use Rattle.frac128.specs.Problem.{ProblemData, IsSpanCertificate}
use Rattle.frac128.specs.declared.number.TooWide.{TooWide as Wide}
use Rattle.integers.specs.Fraction.{Fraction, FractionAtMost, SameFraction, IsWriting, fraction_of}
use Rattle.judgement_matrix.specs.Least.{IsLeastScale}
use Rattle.judgement_matrix.specs.Matrix.{Judgements}
use Rattle.judgement_matrix.specs.Scale.{difference}
use Rattle.judgement_matrix.specs.Values.{fraction_at}
use Rattle.lex_simplex.specs.Answer.{IsLeastAnswer}
use Rattle.lex_simplex.specs.Turn.{IsRun}
use Rattle.lex_simplex.specs.declared.end.End.{End}
use Rattle.lex_simplex.specs.declared.end.End.TheVariants.{Optimal}
use Rattle.lex_simplex.specs.declared.end.PivotFault.{PivotFault}
use Rattle.lex_simplex.specs.declared.end.PivotFault.TheVariants as pivot
use Rattle.lp_macbeth.specs.Closed.{closed_problem_of}
use Rattle.lp_macbeth.specs.ClosedThreshold.{closed_thresholds_of}
use Rattle.model_core.specs.State.{CriterionState}
use Rattle.open_dominance.specs.Open.{References, IsClosureScale}
use Rattle.open_dominance.specs.declared.gap.Gap.{Gap}
use Rattle.value_scale.specs.Anchor.{IsAnchoredScale, checked_anchor}
use Rattle.value_scale.specs.Basic.{IsFound}
use Rattle.value_scale.specs.declared.basic.Basic.{Basic}
use Rattle.value_scale.specs.declared.basic.Basic.TheVariants.{Scale}
use Rattle.frac128.specs.declared.problem.Cert.{Cert}
use Rattle.value_scale.specs.GapSums.{checked_values}
use Rattle.value_scale.specs.declared.fault.ScaleFault.{ScaleFault}
use Rattle.value_scale.specs.declared.fault.ScaleFault.TheVariants as fault

-- ---- what it is

-- what a criterion asks of its scales beside the judgements
abbrev pub references_of : CriterionState → References
references_of c = record { good = c.good; neutral = c.neutral; reach = c.reach }

-- v over n is in the closure of the criterion's open scales
abbrev pub IsClosureScaleOf : CriterionState → List ℤ → ℤ → Type 0
IsClosureScaleOf c v n = IsClosureScale c.matrix (references_of c) v n

-- some scale is
abbrev pub HasClosureScale : CriterionState → Type 0
HasClosureScale c = (v : List ℤ) × ((n : ℤ) × IsClosureScaleOf c v n)

-- how far a is above b on the scale v over n
abbrev pub ahead : List ℤ → ℤ → ℕ → ℕ → Fraction
ahead v n a b = record { num = difference v a b; den = n }

-- the values are a scale of the closure on which a is so far above b, and on none it is less far
pub record IsLeastDifference (c : CriterionState) (a b : ℕ) (least : Fraction) (values : List Fraction) : Type 0 where
  pub at : List ℤ
  pub over : ℤ
  pub written : IsWriting values at over
  pub among : IsClosureScaleOf c at over
  pub attained : SameFraction (ahead at over a b) least
  pub none_below : (v : List ℤ) (n : ℤ) → IsClosureScaleOf c v n → FractionAtMost least (ahead v n a b)

-- ---- how it is worked

-- each value less one
unfoldable pub checked_lowered : Fraction → List Fraction → Result (List Fraction) Wide
checked_lowered zero [] = Ok []
checked_lowered zero (value ∷ values) = do
  first ← checked_difference value zero
  others ← checked_lowered zero values
  Ok (first ∷ others)

-- the values that gaps make, the bottom gap first, each less that of neutral
unfoldable pub checked_scale : ℕ → List Fraction → Result (List Fraction) Wide
checked_scale neutral gaps = do
  values ← checked_values gaps
  checked_lowered (fraction_at values neutral) values

-- where a is listed above b the value of the closed problem is the difference, and else the difference and the reach
abbrev pub checked_least : ℕ → ℕ → ℕ → Fraction → Result Fraction Wide
checked_least reach a b value = if nat_lt a b then Ok value else checked_difference value (fraction_of (pos reach))

-- the difference, and the scale that the gaps make
unfoldable pub checked_gap : CriterionState → ℕ → ℕ → Fraction → List Fraction → Result (Fraction × List Fraction) Wide
checked_gap c a b value gaps = do
  least ← checked_least c.reach a b value
  scale ← checked_scale c.neutral gaps
  Ok (least, scale)

-- ---- how it is found

-- the closed problem of the two elements, and its threshold form
abbrev pub gap_problem : CriterionState → ℕ → ℕ → ProblemData
gap_problem c a b = closed_problem_of c.matrix c.good c.neutral c.reach a b

abbrev pub gap_form : CriterionState → ℕ → ℕ → ProblemData
gap_form c a b = closed_thresholds_of c.matrix c.good c.neutral c.reach a b

-- the run of a problem ends so
abbrev pub RunEnds : ProblemData → Result End PivotFault → Type 0
RunEnds p end = (pivots : ℕ) × IsRun p end pivots

-- worked from the value and the gaps of the form's least point, which are taken in lowest terms
pub record IsWorkedGap (c : CriterionState) (a b : ℕ) (value : Fraction) (worked : Result (Fraction × List Fraction) Wide) : Type 0 where
  pub point : List Fraction
  pub is : IsLeastAnswer (gap_form c a b) point value
  pub are : checked_gap c a b value (take (c.matrix.size - 1) point) ≡ worked

-- the least gap of two elements that aren't one: what it is, a certificate of the closed problem's value on the problem's own rows,
-- and how it was worked
pub record IsGapApart (c : CriterionState) (a b : ℕ) (gap : Gap) : Type 0 where
  pub value : Fraction
  pub is_value : gap.problem_value ≡ Some value
  pub means : IsLeastDifference c a b gap.least gap.scale
  pub least_reduced : IsReduced gap.least
  pub scale_reduced : All IsReduced gap.scale
  pub proof : IsSpanCertificate (gap_problem c a b) gap.cert value
  pub worked : IsWorkedGap c a b value (Ok (gap.least, gap.scale))

-- what is read from the outcome of a run that found a least point
abbrev pub IsReadGap : CriterionState → ℕ → ℕ → Result Gap ScaleFault → Type 0
IsReadGap c a b (Ok gap) = IsGapApart c a b gap
IsReadGap c a b (Err fault.TooWide) = (value : Fraction) × IsWorkedGap c a b value (Err (record {}))
IsReadGap c a b (Err fault.NoMemory) = Unit {0}

-- the least gap of two elements that aren't one; it is too wide exactly where the run is, or what is worked from its least point
abbrev pub IsGapFound : CriterionState → ℕ → ℕ → Result Gap ScaleFault → Type 0
IsGapFound c a b (Ok gap) = RunEnds (gap_form c a b) (Ok Optimal) × IsGapApart c a b gap
IsGapFound c a b (Err fault.TooWide) = RunEnds (gap_form c a b) (Err pivot.TooWide)
    ⊎ (RunEnds (gap_form c a b) (Ok Optimal) × ((value : Fraction) × IsWorkedGap c a b value (Err (record {}))))
IsGapFound c a b (Err fault.NoMemory) = Unit {0}

-- ---- the answer

-- an element is as far above itself as it is on any scale: no problem is solved
abbrev pub gap_of_one : List Fraction → Gap
gap_of_one anchored = record {
  least = fraction_of (pos 0);
  problem_value = None;
  scale = anchored;
  cert = record { den = pos 1; on = [] };
}

-- what is answered for an element and itself
abbrev pub IsGapOfOne : List Fraction → Result Gap ScaleFault → Type 0
IsGapOfOne anchored (Ok gap) = gap ≡ gap_of_one anchored
IsGapOfOne anchored (Err fault.TooWide) = ⊥
IsGapOfOne anchored (Err fault.NoMemory) = Unit {0}

-- ---- an element and itself, where no anchored scale is at hand

-- the criterion has an anchored scale, whose span is within the reach
pub record HasAnchoredScale (c : CriterionState) : Type 0 where
  pub least : List ℤ
  pub den : ℤ
  pub is_least : IsLeastScale c.matrix least den
  pub anchored : List ℤ
  pub over : ℤ
  pub is_anchored : IsAnchoredScale least den c.good c.neutral anchored over
  pub reached : difference anchored 1 c.matrix.size ≤ℤ (pos c.reach *ℤ over)

-- the basic scale of the matrix is so answered for some count
abbrev pub IsBasicAnswer : Judgements → Result Basic ScaleFault → Type 0
IsBasicAnswer m answer = (before : ℕ) × ((after : ℕ) × IsFound m before answer after)

-- the anchoring of the least scale's values gives this
pub record IsAnchoring (c : CriterionState) (worked : Result (List Fraction) Wide) : Type 0 where
  pub values : List Fraction
  pub cert : Cert
  pub basic : IsBasicAnswer c.matrix (Ok (Scale values cert))
  pub are : checked_anchor values c.good c.neutral ≡ worked

-- the anchored scale; it is too wide exactly where the basic scale is, or its anchoring
abbrev pub IsAnchoredAnswer : {V : Type 0} → (V → List Fraction) → CriterionState → Result V ScaleFault → Type 0
IsAnchoredAnswer items c (Ok v) = IsAnchoring c (Ok (items v))
IsAnchoredAnswer items c (Err fault.TooWide) = IsBasicAnswer c.matrix (Err fault.TooWide) ⊎ IsAnchoring c (Err (record {}))
IsAnchoredAnswer items c (Err fault.NoMemory) = Unit {0}

-- what is answered for an element and itself
abbrev pub IsOwnGap : CriterionState → Result Gap ScaleFault → Type 0
IsOwnGap c (Ok gap) = (anchored : List Fraction) × (IsAnchoring c (Ok anchored) × (gap ≡ gap_of_one anchored))
IsOwnGap c (Err fault.TooWide) = IsBasicAnswer c.matrix (Err fault.TooWide) ⊎ IsAnchoring c (Err (record {}))
IsOwnGap c (Err fault.NoMemory) = Unit {0}
