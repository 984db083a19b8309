-- Gaps are a feasible point of a matrix's problem exactly where their sums from the bottom are a scale that meets the matrix.
use lib.IntN.{*ℤ_comm, +ℤ_idr, zero-*ℤ}
use Rattle.std.specs.List.{AllByRecursion, range_with_len}
use Rattle.std.proofs.Common.{◌≡◌, ◌↔◌, ℕ, suc, ◌+◌, ◌-◌, ◌<◌, ◌≤◌, ℤ, pos, negsuc, neg_ℤ, ◌+ℤ◌, ◌-ℤ◌, ◌*ℤ◌, ◌≤ℤ◌, ◌<ℤ◌, List, [], ◌∷◌, ◌++◌, length, take, drop, get_or, map, replicate, All, sym, ap, ap₂, subst, ◌∙◌, arith}
use Rattle.std.proofs.Math.Seq.{drop-cons}
use Rattle.std.proofs.lemmas.List.{get_or_default}
use Rattle.std.proofs.lemmas.List.Elements.{All-append, All-replicate}
use Rattle.frac128.specs.Problem.{IsRowMetBy, IsFeasible, IsInfeasible}
use Rattle.integers.specs.Vector.{dot, add, int_sum, AreNonNegative}
use Rattle.integers.proofs.Laws.{lin, minus_one-*ℤ, mul_nonneg}
use Rattle.integers.proofs.Order.{le_of_lt}
use Rattle.integers.proofs.Vector.{dot-add, dot-scale}
use Rattle.integers.proofs.VectorOrder.{dot_nonneg}
use Rattle.judgement_matrix.specs.Matrix.{Judgements, IsPair, range_at}
use Rattle.judgement_matrix.specs.Scale.{value_at, difference, IsScale, IsMetInUnit, IsMetBy, IsInconsistent}
use Rattle.judgement_matrix.specs.Rows.{order_rows, RowHolds, IsTagAmong}
use Rattle.judgement_matrix.specs.declared.tag.Tag.{Tag}
use Rattle.judgement_matrix.specs.declared.tag.Tag.TheVariants.{Lower, Zero, Cross, Order}
use Rattle.judgement_matrix.proofs.EveryLemmas.{every-append, every-append_left, every-map, every_from_map, every-range}
use Rattle.judgement_matrix.proofs.FitLemmas.{met_from_rows, rows_from_met}
use Rattle.lp_macbeth.specs.Gaps.{gap_coefs, opposite, scale_of, gaps_of}
use Rattle.lp_macbeth.specs.Rows.{row_of, judged_rows, problem_of}
use Rattle.lp_macbeth.proofs.GapLemmas.{dot-between, dot-gap_coefs, value_at-scale_of, length-scale_of, scale_of-gaps_of}
use Rattle.lp_macbeth.proofs.PairLemmas.{All-from_every, every_from_All}
use Rattle.lp_macbeth.proofs.TagLemmas.{All-judged_rows}

-- two facts of each element give a third
pub every_both : {X : Type 0} (P Q R : X → Type 0) → ((x : X) → P x → Q x → R x) → (xs : List X) → AllByRecursion P xs → AllByRecursion Q xs
    → AllByRecursion R xs
every_both P Q R f [] h k = tt
every_both P Q R f (x ∷ xs) h k = (f x h.0 k.0, every_both P Q R f xs h.1 k.1)

-- ---- one row

-- the opposite of a product
pub dot-opposite : (xs us : List ℤ) → dot (opposite xs) us ≡ neg_ℤ (dot xs us)
dot-opposite xs us = dot-scale (negsuc 0) xs us ∙ minus_one-*ℤ (dot xs us)

-- a row holds at gaps exactly where its constraint holds of their scale
pub met_row : (m : Judgements) (x : List ℤ) (n : ℤ) (tag : Tag) → suc (length x) ≡ m.size → IsTagAmong m.size tag
    → IsRowMetBy x n (row_of m tag) ↔ RowHolds m (scale_of x) n tag
met_row m x n (Lower p q) each among =
    let d = dot-gap_coefs m.size x p q each among in
    let b : pos (range_at m p q).lo *ℤ n ≡ n *ℤ pos (range_at m p q).lo = *ℤ_comm (pos (range_at m p q).lo) n in
    (λ h. omega (arith, lin, d, b, h), λ h. omega (arith, lin, d, b, h))
met_row m x n (Zero p q) each among =
    let d : dot (opposite (gap_coefs m.size p q)) x ≡ neg_ℤ (difference (scale_of x) p q) =
    dot-opposite (gap_coefs m.size p q) x ∙ ap neg_ℤ (dot-gap_coefs m.size x p q each among) in
    let b : pos 0 *ℤ n ≡ pos 0 = zero-*ℤ n in
    (λ h. omega (arith, lin, d, b, h), λ h. omega (arith, lin, d, b, h))
met_row m x n (Cross p q u v) each among =
    let d : dot (add (gap_coefs m.size p q) (opposite (gap_coefs m.size u v))) x ≡ difference (scale_of x) p q -ℤ difference (scale_of x) u v =
    dot-add (gap_coefs m.size p q) (opposite (gap_coefs m.size u v)) x
    ∙ ap₂ (λ y z. y +ℤ z) (dot-gap_coefs m.size x p q each among.0)
    (dot-opposite (gap_coefs m.size u v) x ∙ ap neg_ℤ (dot-gap_coefs m.size x u v each among.1)) in
    let b = *ℤ_comm (pos (range_at m p q).lo -ℤ pos (range_at m u v).hi) n in (
      λ h. subst (λ y. y ≤ℤ (difference (scale_of x) p q -ℤ difference (scale_of x) u v)) b
          (subst (λ z. ((pos (range_at m p q).lo -ℤ pos (range_at m u v).hi) *ℤ n) ≤ℤ z) d h),
      λ h. subst (λ z. ((pos (range_at m p q).lo -ℤ pos (range_at m u v).hi) *ℤ n) ≤ℤ z) (sym d)
          (subst (λ y. y ≤ℤ (difference (scale_of x) p q -ℤ difference (scale_of x) u v)) (sym b) h),
    )
met_row m x n (Order p) each among =
    let d = dot-gap_coefs m.size x p (p + 1) each (among.0, omega arith, omega arith) in
    let b : pos 0 *ℤ n ≡ pos 0 = zero-*ℤ n in
    (λ h. omega (arith, lin, d, b, h), λ h. omega (arith, lin, d, b, h))

-- ---- gaps at least 0

-- the coefficients of a difference are at least 0
pub gap_coefs_nonneg : (n p q : ℕ) → AreNonNegative (gap_coefs n p q)
gap_coefs_nonneg n p q =
    let zero : pos 0 ≤ℤ pos 0 = omega (arith, lin) in
    let one : pos 0 ≤ℤ pos 1 = omega (arith, lin) in
    let P : ℤ → Type 0 = λ c. pos 0 ≤ℤ c in
    All-append P (replicate (n - q) (pos 0) ++ replicate (q - p) (pos 1)) (replicate (p - 1) (pos 0))
    (All-append P (replicate (n - q) (pos 0)) (replicate (q - p) (pos 1)) (All-replicate P (n - q) (pos 0) zero) (All-replicate P (q - p) (pos 1) one))
    (All-replicate P (p - 1) (pos 0) zero)

-- so no element stands below a later one
pub scale_falls : (n : ℕ) (x : List ℤ) (p q : ℕ) → suc (length x) ≡ n → IsPair n p q → AreNonNegative x → pos 0 ≤ℤ difference (scale_of x) p q
scale_falls n x p q each in_n nonneg = subst (λ d. pos 0 ≤ℤ d) (dot-gap_coefs n x p q each in_n)
    (dot_nonneg (gap_coefs n p q) x (gap_coefs_nonneg n p q) nonneg)

-- a gap is the difference of two neighbours
pub gap_is : (n : ℕ) (x : List ℤ) (k : ℕ) → suc (length x) ≡ n → k < length x → difference (scale_of x) (n - 1 - k) (n - 1 - k + 1) ≡ get_or x k (pos 0)
gap_is n x k each below =
    let p : ℕ = n - 1 - k in
    let low : n - (p + 1) ≡ k = omega arith in
    let one : p + 1 - p ≡ 1 = omega arith in
    sym (dot-gap_coefs n x p (p + 1) each (omega arith, omega arith, omega arith)) ∙ dot-between (n - (p + 1)) (p + 1 - p) (p - 1) x
    ∙ ap₂ (λ a b. int_sum (take b (drop a x))) low one ∙ ap (λ l. int_sum (take 1 l)) (drop-cons x k (pos 0) below) ∙ +ℤ_idr (get_or x k (pos 0))

-- ---- points and scales

-- the sums of gaps are a scale
pub IsScale-scale_of : (m : Judgements) (x : List ℤ) (n : ℤ) → suc (length x) ≡ m.size → pos 0 <ℤ n → IsScale m (scale_of x) n
IsScale-scale_of m x n each den = record {
  den_pos = den;
  each = length-scale_of x ∙ each;
  last =
      let none : suc (length x) - m.size ≡ 0 = omega (arith, each) in
      value_at-scale_of x m.size (omega (arith, each)) (omega (arith, each)) ∙ ap (λ k. int_sum (take k x)) none;
}

-- the rows at a point, and what they say of its scale
judged_from_met : (m : Judgements) (x : List ℤ) (n : ℤ) → suc (length x) ≡ m.size → All (IsRowMetBy x n) (map (row_of m) (judged_rows m))
    → AllByRecursion (RowHolds m (scale_of x) n) (judged_rows m)
judged_from_met m x n each h =
    every_both (IsTagAmong m.size) (λ tag. IsRowMetBy x n (row_of m tag)) (RowHolds m (scale_of x) n) (λ tag among met. (met_row m x n tag each among).0 met)
    (judged_rows m)
    (every_from_All (IsTagAmong m.size) (judged_rows m) (All-judged_rows m))
    (every_from_map (IsRowMetBy x n) (row_of m) (judged_rows m) (every_from_All (IsRowMetBy x n) (map (row_of m) (judged_rows m)) h))

met_from_judged : (m : Judgements) (x : List ℤ) (n : ℤ) → suc (length x) ≡ m.size → AllByRecursion (RowHolds m (scale_of x) n) (judged_rows m)
    → All (IsRowMetBy x n) (map (row_of m) (judged_rows m))
met_from_judged m x n each h =
    All-from_every (IsRowMetBy x n) (map (row_of m) (judged_rows m)) (every-map (IsRowMetBy x n) (row_of m) (judged_rows m)
    (every_both (IsTagAmong m.size) (RowHolds m (scale_of x) n) (λ tag. IsRowMetBy x n (row_of m tag))
    (λ tag among holds. (met_row m x n tag each among).1 holds) (judged_rows m)
    (every_from_All (IsTagAmong m.size) (judged_rows m) (All-judged_rows m)) h))

-- the rows met at gaps of at least 0, and the judgements met by their scale, in any unit of at least 0
pub met_where_rows_are : (m : Judgements) (x : List ℤ) (n : ℤ) → suc (length x) ≡ m.size → pos 0 ≤ℤ n
    → (AreNonNegative x × All (IsRowMetBy x n) (map (row_of m) (judged_rows m))) ↔ IsMetInUnit m n (scale_of x)
met_where_rows_are m x n each unit = (to, from)
  where
    to : AreNonNegative x × All (IsRowMetBy x n) (map (row_of m) (judged_rows m)) → IsMetInUnit m n (scale_of x)
    to h =
        let Holds : Tag → Type 0 = RowHolds m (scale_of x) n in
        let order : AllByRecursion Holds (order_rows m) =
        every-map Holds (λ p. Order p) (range_with_len 1 (m.size - 1)) (every-range (λ p. Holds (Order p)) 1 (m.size - 1)
        (λ p low high. scale_falls m.size x p (p + 1) each (low, omega arith, omega arith) h.0)) in
        met_from_rows m (scale_of x) n (every-append Holds (judged_rows m) (order_rows m) (judged_from_met m x n each h.1) order)

    from : IsMetInUnit m n (scale_of x) → AreNonNegative x × All (IsRowMetBy x n) (map (row_of m) (judged_rows m))
    from h =
        let Holds : Tag → Type 0 = RowHolds m (scale_of x) n in
        let judged = every-append_left Holds (judged_rows m) (order_rows m) (rows_from_met m (scale_of x) n unit h) in (
          λ k d below.
              let p : ℕ = m.size - 1 - k in
              let lo : ℕ = (range_at m p (p + 1)).lo in
              let bound = h.lower p (p + 1) (omega arith, omega arith, omega arith) in
              let zero : pos 0 ≤ℤ (n *ℤ pos lo) = mul_nonneg n (pos lo) unit (omega (arith, lin)) in
              let is = gap_is m.size x k each below in
              subst (λ z. pos 0 ≤ℤ z) (get_or_default x k (pos 0) d below) (omega (arith, lin, bound, zero, is)),
          met_from_judged m x n each judged,
        )

-- a point is a scale that meets the matrix
pub feasible_iff_met : (m : Judgements) (x : List ℤ) (n : ℤ) → 2 ≤ m.size → IsFeasible (problem_of m) x n ↔ IsMetBy m (scale_of x) n
feasible_iff_met m x n two = (
  λ h.
      let each : suc (length x) ≡ m.size = omega (arith, h.one_each) in
      record { scale = IsScale-scale_of m x n each h.den_pos; meets = (met_where_rows_are m x n each (le_of_lt (pos 0) n h.den_pos)).0 (h.nonneg, h.meets) },
  λ h.
      let each : suc (length x) ≡ m.size = sym (length-scale_of x) ∙ h.scale.each in
      let parts = (met_where_rows_are m x n each (le_of_lt (pos 0) n h.scale.den_pos)).1 h.meets in
      record { den_pos = h.scale.den_pos; one_each = omega (arith, each); nonneg = parts.0; meets = parts.1 },
)

-- each scale is the one that its gaps make
pub scale_is : (m : Judgements) (w : List ℤ) (n : ℤ) → 1 ≤ m.size → IsScale m w n → scale_of (gaps_of w) ≡ w
scale_is m w n least h = scale_of-gaps_of w (omega (arith, h.each)) (ap (value_at w) h.each ∙ h.last)

pub feasible_from_met : (m : Judgements) (w : List ℤ) (n : ℤ) → 2 ≤ m.size → IsMetBy m w n → IsFeasible (problem_of m) (gaps_of w) n
feasible_from_met m w n two h =
    (feasible_iff_met m (gaps_of w) n two).1 (subst (λ v. IsMetBy m v n) (sym (scale_is m w n (omega arith) h.scale)) h)

-- no point is feasible exactly where no scale meets the matrix
pub infeasible_iff_inconsistent : (m : Judgements) → 2 ≤ m.size → IsInfeasible (problem_of m) ↔ IsInconsistent m
infeasible_iff_inconsistent m two = (
  λ none w n h. none (gaps_of w) n (feasible_from_met m w n two h),
  λ none x n h. none (scale_of x) n ((feasible_iff_met m x n two).0 h),
)
