-- The threshold form of a closed problem, of a criterion or of a weighting: five thresholds stand between the
-- categories, so that each pair is compared with them in place of all other pairs, as in the open problem, but in unit 0.
use Rattle.std.specs.Prelude.{◌≡◌, ◌↔◌, ℕ, ◌+◌, ◌-◌, ℤ, pos, List, ◌++◌, map, filter, replicate, take, drop, nat_le}
use Rattle.frac128.specs.Problem.{ProblemData, IsFeasible, IsInfeasible, IsLeast, cost_at}
use Rattle.frac128.specs.declared.problem.Row.{Row}
use Rattle.judgement_matrix.specs.Matrix.{Judgements, pairs, range_at}
use Rattle.lp_macbeth.specs.declared.threshold_tags.ThresholdTag.{ThresholdTag}
use Rattle.lp_macbeth.specs.declared.threshold_tags.ThresholdTag.TheVariants.{At}
use Rattle.lp_macbeth.specs.Closed.{anchored_rows, closed_cost}
use Rattle.lp_macbeth.specs.ClosedWeighting.{sum_rows}
use Rattle.lp_macbeth.specs.Threshold.{equal_rows_of, below_rows_of, step_rows, threshold_row_of}

-- ---- rows

-- of these pairs those whose range begins at 2 or above
abbrev pub high_rows_of : Judgements → List (ℕ × ℕ) → List ThresholdTag
high_rows_of m ps = map (λ pair. At pair.0 pair.1) (filter (λ pair. nat_le 2 (range_at m pair.0 pair.1).lo) ps)

-- the rows of pairs and thresholds in order: those of the open problem but where a range begins at 1, which in unit 0
-- asks for nothing
abbrev pub closed_threshold_rows : Judgements → List ThresholdTag
closed_threshold_rows m = high_rows_of m (pairs m.size) ++ equal_rows_of m (pairs m.size)
    ++ below_rows_of m (pairs m.size) ++ step_rows

-- the constraint of a tag in unit 0, with so many further variables between the gaps and the thresholds
abbrev pub closed_threshold_row_of : Judgements → ℕ → ThresholdTag → Row
closed_threshold_row_of m further tag = record {
  coefs = take (m.size - 1) (threshold_row_of m tag).coefs ++ replicate further (pos 0)
      ++ drop (m.size - 1) (threshold_row_of m tag).coefs;
  bound = pos 0;
}

-- the row over the thresholds too, of which it asks nothing
abbrev pub with_thresholds : Row → Row
with_thresholds row = record { coefs = row.coefs ++ replicate 5 (pos 0); bound = row.bound }

-- ---- problems

-- the problem over the gaps, so many further variables and the thresholds, which cost nothing: with these costs of the
-- others, and these rows beside those of pairs and thresholds
abbrev pub threshold_form_of : Judgements → ℕ → List ℤ → List Row → ProblemData
threshold_form_of m further cost named = record {
  vars = m.size - 1 + further + 5;
  cost = cost ++ replicate 5 (pos 0);
  rows = map (closed_threshold_row_of m further) (closed_threshold_rows m) ++ map with_thresholds named;
}

-- that of a criterion's closed problem: the room is the one further variable
abbrev pub closed_thresholds_with : Judgements → ℕ → ℕ → ℕ → List ℤ → ProblemData
closed_thresholds_with m good neutral reach cost = threshold_form_of m 1 cost (anchored_rows m.size good neutral reach)

-- what costs is the difference of a over b
abbrev pub closed_thresholds_of : Judgements → ℕ → ℕ → ℕ → ℕ → ℕ → ProblemData
closed_thresholds_of m good neutral reach a b =
    closed_thresholds_with m good neutral reach (closed_cost m.size a b)

-- that of a weighting's closed problem
abbrev pub weighting_thresholds_of : Judgements → List ℤ → ProblemData
weighting_thresholds_of m cost = threshold_form_of m 0 cost (sum_rows (m.size - 1))

-- ---- what they mean

-- the form has thresholds beside the problem's variables: cut to these its points are the problem's, each of which has
-- thresholds, its values are the problem's, its least point is the problem's, and it has a point where the problem has
-- one
pub record IsThresholdForm (problem form : ProblemData) : Type 0 where
  pub cut : (z : List ℤ) (n : ℤ) → IsFeasible form z n → IsFeasible problem (take problem.vars z) n
  pub extended : (x : List ℤ) (n : ℤ) → IsFeasible problem x n → (t : List ℤ) × IsFeasible form (x ++ t) n
  pub value : (z : List ℤ) (n : ℤ) → IsFeasible form z n → cost_at form z n ≡ cost_at problem (take problem.vars z) n
  pub least : (z : List ℤ) (n : ℤ) → IsLeast form z n → IsLeast problem (take problem.vars z) n
  pub nothing : IsInfeasible form ↔ IsInfeasible problem
