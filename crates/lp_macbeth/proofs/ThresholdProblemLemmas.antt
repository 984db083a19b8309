-- The threshold problem of a matrix is a linear problem: its numbers are as many as they should be, and in range.
use Rattle.std.proofs.Common.{◌≡◌, ℕ, ◌+◌, ◌-◌, ℤ, pos, ◌≤ℤ◌, List, ◌++◌, map, replicate, ap, ap₂, ◌∙◌, arith}
use Rattle.std.specs.Int.Signed.{le_z_yes}
use Rattle.std.proofs.lemmas.List.{length-append, length-replicate}
use Rattle.std.proofs.lemmas.List.Elements.{All-append, All-replicate, All-map, All-weaker}
use Rattle.frac128.specs.Problem.{IsProblem, IsRow, problem_of}
use Rattle.frac128.specs.declared.problem.Row.{Row}
use Rattle.frac128.specs.Range.{IsInRange}
use Rattle.judgement_matrix.specs.Matrix.{Judgements, IsMatrix, range_at}
use Rattle.lp_macbeth.specs.declared.threshold_tags.ThresholdTag.{ThresholdTag}
use Rattle.lp_macbeth.specs.declared.threshold_tags.ThresholdTag.TheVariants.{At, Zero, Below, Step}
use Rattle.lp_macbeth.specs.Threshold.{threshold_rows, threshold_row_of, threshold_problem_of, IsThresholdTagOf}
use Rattle.lp_macbeth.proofs.RangeLemmas.{small_in_range}
use Rattle.lp_macbeth.proofs.ThresholdLemmas.{IsRange-range_at}
use Rattle.lp_macbeth.proofs.ThresholdRowLemmas.{IsRow-at, IsRow-equal, IsRow-below, IsRow-step}
use Rattle.lp_macbeth.proofs.ThresholdTagLemmas.{All-threshold_rows}

-- the constraint of each tag is a row
pub row_fits : (m : Judgements) → IsMatrix m → (tag : ThresholdTag) → IsThresholdTagOf m tag → IsRow (m.size - 1 + 5) (threshold_row_of m tag)
row_fits m is (At p q) h =
    let range = IsRange-range_at m is p q in
    IsRow-at m.size p q (range_at m p q).lo h.0 (omega (arith, range))
row_fits m is (Zero p q) h = IsRow-equal m.size p q h
row_fits m is (Below p q) h = IsRow-below m.size p q (range_at m p q).hi h.0 h.1
row_fits m is (Step k) h = IsRow-step m.size k h.0 h.1

pub IsProblem-threshold_problem_of : (m : Judgements) → IsMatrix m → IsProblem (threshold_problem_of m)
IsProblem-threshold_problem_of m is =
    let ones = replicate (m.size - 1) (pos 1) in
    let zeros = replicate 5 (pos 0) in
    record {
      one_each = length-append ones zeros ∙ omega (arith, length-replicate (m.size - 1) (pos 1), length-replicate 5 (pos 0));
      cost_nonneg = All-append (λ x. pos 0 ≤ℤ x) ones zeros (All-replicate (λ x. pos 0 ≤ℤ x) (m.size - 1) (pos 1) (le_z_yes tt))
          (All-replicate (λ x. pos 0 ≤ℤ x) 5 (pos 0) (le_z_yes tt));
      cost_in_range = All-append IsInRange ones zeros (All-replicate IsInRange (m.size - 1) (pos 1) (small_in_range (pos 1) (omega arith)))
          (All-replicate IsInRange 5 (pos 0) (small_in_range (pos 0) (omega arith)));
      rows_fit = All-map (IsRow (m.size - 1 + 5)) (threshold_row_of m) (threshold_rows m)
          (All-weaker (IsThresholdTagOf m) (λ tag. IsRow (m.size - 1 + 5) (threshold_row_of m tag)) (row_fits m is) (threshold_rows m) (All-threshold_rows m));
    }

-- the parts that the code makes
pub threshold_problem_is : (m : Judgements) (n : ℕ) (cost : List ℤ) (rows : List Row) → n ≡ m.size
    → cost ≡ replicate (n - 1) (pos 1) ++ replicate 5 (pos 0) → rows ≡ map (threshold_row_of m) (threshold_rows m)
    → problem_of (n - 1 + 5) cost rows ≡ threshold_problem_of m
threshold_problem_is m n cost rows size costs are =
    ap₂ (problem_of (n - 1 + 5)) costs are
    ∙ ap (λ s. problem_of (s - 1 + 5) (replicate (s - 1) (pos 1) ++ replicate 5 (pos 0)) (map (threshold_row_of m) (threshold_rows m))) size
