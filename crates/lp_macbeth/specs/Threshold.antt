-- The threshold problem of a matrix: five thresholds T(1) to T(5) stand between the categories, so that each pair is
-- compared with them in place of all other pairs.
use Rattle.std.specs.Prelude.{ℕ, zero, suc, ◌+◌, ◌-◌, ◌≤◌, ℤ, pos, negsuc, neg_ℤ, List, ◌++◌, map, filter, replicate, set, nat_le, ◌==◌, ◌&&◌}
use Rattle.std.specs.List.{range_with_len}
use Rattle.frac128.specs.Problem.{ProblemData}
use Rattle.frac128.specs.declared.problem.Row.{Row}
use Rattle.integers.specs.Vector.{add}
use Rattle.judgement_matrix.specs.Matrix.{Judgements, IsPair, pairs, range_at}
use Rattle.lp_macbeth.specs.declared.threshold_tags.ThresholdTag.{ThresholdTag}
use Rattle.lp_macbeth.specs.declared.threshold_tags.ThresholdTag.TheVariants.{At, Zero, Below, Step}
use Rattle.lp_macbeth.specs.Gaps.{gap_coefs, opposite}

-- c times T(k) as coefficients of the five thresholds; T(0) is 0
abbrev pub threshold : ℕ → ℤ → List ℤ
threshold zero c = replicate 5 (pos 0)
threshold (suc k) c = set (replicate 5 (pos 0)) k c

-- T(k) - T(k - 1) as coefficients of the five thresholds
abbrev pub threshold_step : ℕ → List ℤ
threshold_step k = add (threshold k (pos 1)) (threshold (k - 1) (negsuc 0))

-- of these pairs those whose range begins at 1 or above
abbrev pub at_rows_of : Judgements → List (ℕ × ℕ) → List ThresholdTag
at_rows_of m ps = map (λ pair. At pair.0 pair.1) (filter (λ pair. nat_le 1 (range_at m pair.0 pair.1).lo) ps)

-- of these pairs those whose range is 0 alone
abbrev pub equal_rows_of : Judgements → List (ℕ × ℕ) → List ThresholdTag
equal_rows_of m ps = map (λ pair. Zero pair.0 pair.1) (filter (λ pair. (range_at m pair.0 pair.1).hi == 0) ps)

-- of these pairs those whose range ends at 1 to 5
abbrev pub below_rows_of : Judgements → List (ℕ × ℕ) → List ThresholdTag
below_rows_of m ps = map (λ pair. Below pair.0 pair.1)
    (filter (λ pair. nat_le 1 (range_at m pair.0 pair.1).hi && nat_le (range_at m pair.0 pair.1).hi 5) ps)

-- each threshold but the first
abbrev pub step_rows : List ThresholdTag
step_rows = map (λ k. Step k) (range_with_len 2 4)

-- all rows in order
abbrev pub threshold_rows : Judgements → List ThresholdTag
threshold_rows m = at_rows_of m (pairs m.size) ++ equal_rows_of m (pairs m.size) ++ below_rows_of m (pairs m.size)
    ++ step_rows

-- the constraint of a tag: d(p, q) - T(i - 1) ≥ i for lo = i, -d(p, q) ≥ 0, T(j) - d(p, q) ≥ -j for hi = j,
-- T(k) - T(k - 1) ≥ 0
abbrev pub threshold_row_of : Judgements → ThresholdTag → Row
threshold_row_of m (At p q) = record {
  coefs = gap_coefs m.size p q ++ threshold ((range_at m p q).lo - 1) (negsuc 0);
  bound = pos (range_at m p q).lo;
}
threshold_row_of m (Zero p q) = record { coefs = opposite (gap_coefs m.size p q) ++ threshold 0 (pos 0); bound = pos 0 }
threshold_row_of m (Below p q) = record {
  coefs = opposite (gap_coefs m.size p q) ++ threshold (range_at m p q).hi (pos 1);
  bound = neg_ℤ (pos (range_at m p q).hi);
}
threshold_row_of m (Step k) = record { coefs = replicate (m.size - 1) (pos 0) ++ threshold_step k; bound = pos 0 }

-- the least span: a variable of cost 1 for each gap, bottom first, and then the thresholds, which cost nothing
abbrev pub threshold_problem_of : Judgements → ProblemData
threshold_problem_of m = record {
  vars = m.size - 1 + 5;
  cost = replicate (m.size - 1) (pos 1) ++ replicate 5 (pos 0);
  rows = map (threshold_row_of m) (threshold_rows m);
}

-- the positions of a tag are those of the matrix's elements, and its threshold is one of the five or none
abbrev pub IsThresholdTagOf : Judgements → ThresholdTag → Type 0
IsThresholdTagOf m (At p q) = IsPair m.size p q × (1 ≤ (range_at m p q).lo)
IsThresholdTagOf m (Zero p q) = IsPair m.size p q
IsThresholdTagOf m (Below p q) = IsPair m.size p q × ((range_at m p q).hi ≤ 5)
IsThresholdTagOf m (Step k) = (2 ≤ k) × (k ≤ 5)
