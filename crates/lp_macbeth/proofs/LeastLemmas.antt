-- The least point of a matrix's problem is its least scale, as gaps.
use Rattle.std.proofs.Common.{◌≡◌, ◌↔◌, ℕ, ◌-◌, ◌≤◌, ℤ, pos, List, ◌∷◌, length, replicate, sym, ap, subst, ◌∙◌, arith}
use Rattle.frac128.specs.Problem.{IsLeast, cost_and_numbers}
use Rattle.integers.specs.Fraction.{over}
use Rattle.integers.specs.Lexicographic.{LexLess}
use Rattle.integers.specs.Vector.{dot, int_sum}
use Rattle.integers.proofs.Vector.{dot_comm}
use Rattle.integers.proofs.VectorLaws.{dot-ones}
use Rattle.judgement_matrix.specs.Matrix.{Judgements}
use Rattle.judgement_matrix.specs.Least.{IsSmaller, IsLeastScale}
use Rattle.lp_macbeth.specs.Gaps.{scale_of, gaps_of}
use Rattle.lp_macbeth.specs.Rows.{problem_of}
use Rattle.lp_macbeth.proofs.OrderLemmas.{order_carries}
use Rattle.lp_macbeth.proofs.ScaleLemmas.{feasible_iff_met, feasible_from_met, scale_is}

-- the cost of gaps is their sum
pub cost_is_sum : (k : ℕ) (x : List ℤ) → length x ≡ k → dot (replicate k (pos 1)) x ≡ int_sum x
cost_is_sum k x each = ap (λ k. dot (replicate k (pos 1)) x) (sym each) ∙ dot_comm (replicate (length x) (pos 1)) x ∙ dot-ones x

-- the order of points is that of scales
pub smaller_iff_before : (m : Judgements) (x : List ℤ) (n : ℤ) (y : List ℤ) (k : ℤ) → 2 ≤ m.size → length x ≡ m.size - 1 → length y ≡ m.size - 1
    → LexLess (cost_and_numbers (problem_of m) x n) (cost_and_numbers (problem_of m) y k) ↔ IsSmaller (scale_of x) n (scale_of y) k
smaller_iff_before m x n y k two first second =
    let carried = order_carries x n y k (omega (arith, first)) (first ∙ sym second) in
    let F : ℤ → ℤ → Type 0 = λ a b. LexLess (over (a ∷ x) n) (over (b ∷ y) k) ↔ IsSmaller (scale_of x) n (scale_of y) k in
    subst (λ a. F a (dot (problem_of m).cost y)) (sym (cost_is_sum (m.size - 1) x first))
    (subst (F (int_sum x)) (sym (cost_is_sum (m.size - 1) y second)) carried)

-- the least point is the least scale
pub least_iff_least : (m : Judgements) (x : List ℤ) (n : ℤ) → 2 ≤ m.size → IsLeast (problem_of m) x n ↔ IsLeastScale m (scale_of x) n
least_iff_least m x n two = (
  λ h. record {
    is_met = (feasible_iff_met m x n two).0 h.feasible;
    none_smaller = λ v k met smaller.
        let point = feasible_from_met m v k two met in
        let less = subst (λ w. IsSmaller w k (scale_of x) n) (sym (scale_is m v k (omega arith) met.scale)) smaller in
        h.none_before (gaps_of v) k point ((smaller_iff_before m (gaps_of v) k x n two point.one_each h.feasible.one_each).1 less);
  },
  λ h.
      let point = (feasible_iff_met m x n two).1 h.is_met in
      record {
        feasible = point;
        none_before = λ y k other before. h.none_smaller (scale_of y) k ((feasible_iff_met m y k two).0 other)
            ((smaller_iff_before m y k x n two other.one_each point.one_each).0 before);
      },
)
