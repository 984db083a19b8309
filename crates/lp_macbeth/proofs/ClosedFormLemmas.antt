-- The closed problems of a criterion and of a weighting as problems in unit 0 with rows of their own.
use lib.IntN.{zero-*ℤ, *ℤ-zero}
use Rattle.std.proofs.Common.{◌≡◌, ◌↔◌, ℕ, suc, ◌-◌, ◌≤◌, ℤ, pos, ◌*ℤ◌, ◌≤ℤ◌, List, [], ◌∷◌, ◌++◌, length, take, get_or, map, All, sym, ap, subst, ◌∙◌, arith}
use Rattle.std.proofs.Math.Seq.{drop-cons}
use Rattle.std.proofs.lemmas.List.{take-append-drop, take_all, drop_all, length-take, length-append}
use Rattle.frac128.specs.Problem.{IsRowMetBy}
use Rattle.frac128.specs.declared.problem.Row.{Row}
use Rattle.integers.specs.Vector.{AreNonNegative}
use Rattle.integers.proofs.Laws.{lin}
use Rattle.integers.proofs.Lists.{All-parts}
use Rattle.judgement_matrix.specs.Matrix.{Judgements, IsMatrix, IsPair}
use Rattle.judgement_matrix.specs.Scale.{IsMetInUnit}
use Rattle.judgement_matrix.specs.Rows.{IsTagAmong}
use Rattle.judgement_matrix.specs.declared.tag.Tag.{Tag}
use Rattle.lp_macbeth.specs.Gaps.{gap_coefs, opposite, scale_of}
use Rattle.lp_macbeth.specs.Rows.{row_of}
use Rattle.lp_macbeth.specs.Closed.{closed_tags, closed_row_of, anchor_up, anchor_down, reach_up, reach_down, anchored_rows, closed_problem_with}
use Rattle.lp_macbeth.specs.ClosedWeighting.{weighting_row_of, falling, sum_rows, weighting_problem_of}
use Rattle.lp_macbeth.specs.ClosedThreshold.{closed_thresholds_with, weighting_thresholds_of, IsThresholdForm}
use Rattle.lp_macbeth.proofs.ClosedLemmas.{compared_iff_met, compared_with_room}
use Rattle.lp_macbeth.proofs.ClosedThresholdLemmas.{IsClosedForm, closed_form_is}
use Rattle.lp_macbeth.proofs.CoefLemmas.{length-gap_coefs, length-opposite}
use Rattle.lp_macbeth.proofs.PairLemmas.{All-from_every}
use Rattle.lp_macbeth.proofs.WeightingRowLemmas.{length-falling}

-- ---- of a criterion

-- one more number than gaps
front_and_room : (y : List ℤ) (k : ℕ) → length y ≡ suc k → y ≡ take k y ++ get_or y k (pos 0) ∷ []
front_and_room y k each =
    sym (take-append-drop k y)
    ∙ ap (λ l. take k y ++ l) (drop-cons y k (pos 0) (omega (arith, each)) ∙ ap (λ l. get_or y k (pos 0) ∷ l) (drop_all (suc k) y (omega (arith, each))))

anchored_each : (n good neutral reach : ℕ) → IsPair n good neutral → All (λ (row : Row). length row.coefs ≡ n) (anchored_rows n good neutral reach)
anchored_each n good neutral reach in_n =
    let L : Row → Type 0 = λ row. length row.coefs ≡ n in
    let whole : IsPair n 1 n = (omega arith, omega arith, omega arith) in
    let one = length-gap_coefs n good neutral in_n in
    let all = length-gap_coefs n 1 n whole in
    let up : L (anchor_up n good neutral) = with_one (gap_coefs n good neutral) (pos 0) one in
    let down : L (anchor_down n good neutral) = with_one (opposite (gap_coefs n good neutral)) (pos 0) (length-opposite (gap_coefs n good neutral) ∙ one) in
    let far : L (reach_up n reach) = with_one (gap_coefs n 1 n) (pos 1) all in
    let near : L (reach_down n reach) = with_one (opposite (gap_coefs n 1 n)) _ (length-opposite (gap_coefs n 1 n) ∙ all) in
    All-from_every L (anchored_rows n good neutral reach) (up, (down, (far, (near, tt))))
  where
    with_one : (xs : List ℤ) (c : ℤ) → length xs ≡ n - 1 → length (xs ++ c ∷ []) ≡ n
    with_one xs c each = length-append xs (c ∷ []) ∙ omega (arith, each)

pub closed_problem_is_form : (m : Judgements) (good neutral reach : ℕ) (cost : List ℤ) → 2 ≤ m.size → IsPair m.size good neutral → length cost ≡ m.size
    → IsClosedForm m 1 (anchored_rows m.size good neutral reach) (closed_problem_with m good neutral reach cost)
closed_problem_is_form m good neutral reach cost two references each = record {
  vars = omega (arith, two);
  costs = each;
  named_each = anchored_each m.size good neutral reach references;
  rows = rows;
}
  where
    rows : (y : List ℤ) (n : ℤ) → length y ≡ m.size → AreNonNegative y → All (IsRowMetBy y n) (closed_problem_with m good neutral reach cost).rows
        ↔ (IsMetInUnit m (pos 0) (scale_of (take (m.size - 1) y)) × All (IsRowMetBy y n) (anchored_rows m.size good neutral reach))
    rows y n long nonneg =
        let k : ℕ = m.size - 1 in
        let x : List ℤ = take k y in
        let r : ℤ = get_or y k (pos 0) in
        let split : y ≡ x ++ r ∷ [] = front_and_room y k (omega (arith, long, two)) in
        let first : suc (length x) ≡ m.size = omega (arith, length-take k y, long, two) in
        let low = ((All-parts (λ c. pos 0 ≤ℤ c) x (r ∷ [])).0 (subst AreNonNegative split nonneg)).0 in
        let pairs : List Row = map (closed_row_of m) (closed_tags m) in
        let compared = subst (λ z. All (IsRowMetBy z n) pairs ↔ IsMetInUnit m (pos 0) (scale_of x)) (sym split) (compared_with_room m x r n first low) in
        let parts = All-parts (IsRowMetBy y n) pairs (anchored_rows m.size good neutral reach) in
        (λ h. (compared.0 (parts.0 h).0, (parts.0 h).1), λ h. parts.1 (compared.1 h.0, h.1))

pub closed_thresholds_are : (m : Judgements) (good neutral reach : ℕ) (cost : List ℤ) → IsMatrix m → IsPair m.size good neutral → length cost ≡ m.size
    → IsThresholdForm (closed_problem_with m good neutral reach cost) (closed_thresholds_with m good neutral reach cost)
closed_thresholds_are m good neutral reach cost matrix references each =
    closed_form_is m 1 (anchored_rows m.size good neutral reach) (closed_problem_with m good neutral reach cost) matrix (omega (arith, references))
    (closed_problem_is_form m good neutral reach cost (omega (arith, references)) references each)

-- ---- of a weighting

sum_each : (k : ℕ) → All (λ (row : Row). length row.coefs ≡ k) (sum_rows k)
sum_each k =
    let L : Row → Type 0 = λ row. length row.coefs ≡ k in
    All-from_every L (sum_rows k) (length-falling k, (length-opposite (falling k) ∙ length-falling k, tt))

pub weighting_problem_is_form : (m : Judgements) (cost : List ℤ) → 2 ≤ m.size → length cost ≡ m.size - 1
    → IsClosedForm m 0 (sum_rows (m.size - 1)) (weighting_problem_of m cost)
weighting_problem_is_form m cost two each = record {
  vars = omega arith;
  costs = each;
  named_each = sum_each (m.size - 1);
  rows = rows;
}
  where
    same_row : (y : List ℤ) (n : ℤ) (tag : Tag) → IsTagAmong m.size tag → IsRowMetBy y n (weighting_row_of m tag) ↔ IsRowMetBy y (pos 0) (row_of m tag)
    same_row y n tag among =
        let none : pos 0 *ℤ n ≡ pos 0 = zero-*ℤ n in
        let bound : (row_of m tag).bound *ℤ pos 0 ≡ pos 0 = *ℤ-zero (row_of m tag).bound in
        (λ h. omega (arith, lin, none, bound, h), λ h. omega (arith, lin, none, bound, h))

    rows : (y : List ℤ) (n : ℤ) → length y ≡ m.size - 1 → AreNonNegative y → All (IsRowMetBy y n) (weighting_problem_of m cost).rows
        ↔ (IsMetInUnit m (pos 0) (scale_of (take (m.size - 1) y)) × All (IsRowMetBy y n) (sum_rows (m.size - 1)))
    rows y n long nonneg =
        let whole : take (m.size - 1) y ≡ y = take_all (m.size - 1) y (omega (arith, long)) in
        let first : suc (length y) ≡ m.size = omega (arith, long, two) in
        let pairs : List Row = map (weighting_row_of m) (closed_tags m) in
        let compared = subst (λ x. All (IsRowMetBy y n) pairs ↔ IsMetInUnit m (pos 0) (scale_of x)) (sym whole)
        (compared_iff_met m y y n (weighting_row_of m) (λ tag among. same_row y n tag among) first nonneg) in
        let parts = All-parts (IsRowMetBy y n) pairs (sum_rows (m.size - 1)) in
        (λ h. (compared.0 (parts.0 h).0, (parts.0 h).1), λ h. parts.1 (compared.1 h.0, h.1))

pub weighting_thresholds_are : (m : Judgements) (cost : List ℤ) → IsMatrix m → 2 ≤ m.size → length cost ≡ m.size - 1
    → IsThresholdForm (weighting_problem_of m cost) (weighting_thresholds_of m cost)
weighting_thresholds_are m cost matrix two each =
    closed_form_is m 0 (sum_rows (m.size - 1)) (weighting_problem_of m cost) matrix two (weighting_problem_is_form m cost two each)
