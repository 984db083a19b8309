-- The points of the threshold problem, cut to their gaps, are those of the matrix's problem, and so is the least one.
use Rattle.std.proofs.Common.{◌≡◌, ◌↔◌, ℕ, suc, ◌+◌, ◌-◌, ◌≤◌, ℤ, pos, ◌≤ℤ◌, List, ◌++◌, length, take, drop, refl, sym, ap, subst, ◌∙◌, arith}
use Rattle.std.proofs.lemmas.List.{take-append-drop, length-take, length-drop, length-append, length-replicate}
use Rattle.std.proofs.lemmas.List.Elements.{All-append}
use Rattle.frac128.specs.Problem.{IsFeasible, IsInfeasible, IsLeast}
use Rattle.integers.proofs.Lists.{All-parts}
use Rattle.judgement_matrix.specs.Matrix.{Judgements, IsMatrix}
use Rattle.judgement_matrix.specs.Scale.{IsInconsistent}
use Rattle.judgement_matrix.specs.Least.{IsLeastScale}
use Rattle.lp_macbeth.specs.Gaps.{scale_of}
use Rattle.lp_macbeth.specs.Rows.{problem_of}
use Rattle.lp_macbeth.specs.Threshold.{threshold_problem_of}
use Rattle.lp_macbeth.specs.ClosedThreshold.{IsThresholdForm}
use Rattle.lp_macbeth.proofs.FormLemmas.{form_from_points}
use Rattle.lp_macbeth.proofs.LeastLemmas.{least_iff_least}
use Rattle.lp_macbeth.proofs.MeetLemmas.{met_iff_separates}
use Rattle.lp_macbeth.proofs.ScaleLemmas.{scale_falls, IsScale-scale_of, feasible_iff_met, infeasible_iff_inconsistent}
use Rattle.lp_macbeth.proofs.ThresholdLemmas.{cuts, cuts_nonneg, met_from_separates, separates_from_met}

-- ---- feasible points

-- gaps and thresholds
feasible_parts : (m : Judgements) (x t : List ℤ) (n : ℤ) → IsMatrix m → 2 ≤ m.size → length x ≡ m.size - 1 → length t ≡ 5
    → IsFeasible (threshold_problem_of m) (x ++ t) n → IsFeasible (problem_of m) x n
feasible_parts m x t n matrix two first five h =
    let each : suc (length x) ≡ m.size = omega (arith, first) in
    let parts = (All-parts (λ c. pos 0 ≤ℤ c) x t).0 h.nonneg in
    let apart = (met_iff_separates m x t n each five).0 h.meets in
    let met = met_from_separates m (scale_of x) t n matrix parts.1 (λ p q in_n. scale_falls m.size x p q each in_n parts.0) apart in
    (feasible_iff_met m x n two).1 (record { scale = IsScale-scale_of m x n each h.den_pos; meets = met })

-- the gaps of a point of the threshold problem
pub feasible_cut : (m : Judgements) (z : List ℤ) (n : ℤ) → IsMatrix m → 2 ≤ m.size → IsFeasible (threshold_problem_of m) z n
    → IsFeasible (problem_of m) (take (m.size - 1) z) n
feasible_cut m z n matrix two h =
    let k : ℕ = m.size - 1 in
    feasible_parts m (take k z) (drop k z) n matrix two (length-take k z ∙ omega (arith, h.one_each)) (length-drop k z ∙ omega (arith, h.one_each))
    (subst (λ y. IsFeasible (threshold_problem_of m) y n) (sym (take-append-drop k z)) h)

-- a point of the problem with thresholds
pub feasible_extended : (m : Judgements) (x : List ℤ) (n : ℤ) → IsMatrix m → 2 ≤ m.size → IsFeasible (problem_of m) x n
    → IsFeasible (threshold_problem_of m) (x ++ cuts m (scale_of x) n) n
feasible_extended m x n matrix two h =
    let t : List ℤ = cuts m (scale_of x) n in
    let each : suc (length x) ≡ m.size = omega (arith, h.one_each) in
    let met = ((feasible_iff_met m x n two).0 h).meets in
    record {
      den_pos = h.den_pos;
      one_each = length-append x t ∙ ap (λ k. k + 5) h.one_each;
      nonneg = All-append (λ c. pos 0 ≤ℤ c) x t h.nonneg (cuts_nonneg m (scale_of x) n);
      meets = (met_iff_separates m x t n each refl).1 (separates_from_met m (scale_of x) n matrix met);
    }

-- ---- the least point

pub threshold_problem_is_form : (m : Judgements) → IsMatrix m → 2 ≤ m.size → IsThresholdForm (problem_of m) (threshold_problem_of m)
threshold_problem_is_form m matrix two =
    form_from_points (problem_of m) (threshold_problem_of m) 5 refl (length-replicate (m.size - 1) (pos 1)) (λ z n h. feasible_cut m z n matrix two h)
    (λ x n h. (cuts m (scale_of x) n, feasible_extended m x n matrix two h))

-- the gaps of the least point
pub least_cut : (m : Judgements) (z : List ℤ) (n : ℤ) → IsMatrix m → 2 ≤ m.size → IsLeast (threshold_problem_of m) z n
    → IsLeast (problem_of m) (take (m.size - 1) z) n
least_cut m z n matrix two h = (threshold_problem_is_form m matrix two).least z n h

pub least_scale : (m : Judgements) (z : List ℤ) (n : ℤ) → IsMatrix m → 2 ≤ m.size → IsLeast (threshold_problem_of m) z n
    → IsLeastScale m (scale_of (take (m.size - 1) z)) n
least_scale m z n matrix two h = (least_iff_least m (take (m.size - 1) z) n two).0 (least_cut m z n matrix two h)

-- ---- no point

pub infeasible_iff : (m : Judgements) → IsMatrix m → 2 ≤ m.size → IsInfeasible (threshold_problem_of m) ↔ IsInconsistent m
infeasible_iff m matrix two = (
  λ none. (infeasible_iff_inconsistent m two).0 (λ x n h. none (x ++ cuts m (scale_of x) n) n (feasible_extended m x n matrix two h)),
  λ none z n h. (infeasible_iff_inconsistent m two).1 none (take (m.size - 1) z) n (feasible_cut m z n matrix two h),
)
