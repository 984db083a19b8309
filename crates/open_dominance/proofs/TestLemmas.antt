-- What each step of the dominance test decides is so.
use Rattle.std.specs.Result.{IfOk}
use Rattle.std.proofs.Common.{◌≡◌, ◌↔◌, ℕ, ◌<◌, Bool, true, false, ℤ, pos, ◌+ℤ◌, ◌*ℤ◌, ◌≤ℤ◌, ◌<ℤ◌, List, [], ◌∷◌, length, All, refl, sym, subst, ◌∙◌, Result, Ok, Err, arith}
use Rattle.std.proofs.lemmas.List.Elements.{All-nil, All-cons, All-head, All-tail}
use Rattle.frac128.specs.Checked.{checked_sum}
use Rattle.frac128.specs.declared.number.TooWide.{TooWide}
use Rattle.frac128.proofs.FormulaLemmas.{IsValued, checked_sum-value}
use Rattle.integers.specs.Counting.{IsOrder}
use Rattle.integers.specs.Fraction.{Fraction, IsFraction, AreFractions, SameFraction, SameFractions, IsWriting, over, common_den, common_nums, fraction_of, fraction_sum}
use Rattle.integers.specs.Vector.{dot, running_sums, AreNonNegative}
use Rattle.integers.proofs.FractionSums.{IsFraction-whole}
use Rattle.integers.proofs.Laws.{lin}
use Rattle.integers.proofs.Order.{mul_pos, mul_nonneg, cancel_eq, nonneg_of_mul, le_of_lt, le_trans}
use Rattle.integers.proofs.OrderTests.{int_lt-Decides, int_lt-false}
use Rattle.integers.proofs.Ring.{con, neg, ◌⊕◌, ◌⊗◌, ◌≗◌, ◌✶◌, ◌⇐◌, ring1, combine9}
use Rattle.integers.proofs.Writings.{common_writing, IsWriting-at, IsWriting-length}
use Rattle.judgement_matrix.specs.Matrix.{Judgements}
use Rattle.lp_macbeth.specs.ClosedWeighting.{in_order}
use Rattle.lp_macbeth.proofs.WeightingLemmas.{All-in_order}
use Rattle.open_dominance.specs.Test.{IsNeverBelow, AreClosureWeights, is_below_zero, sums_stay, is_above_by_sums, is_below_by_weights, gives_below}
use Rattle.open_dominance.specs.Weighing.{HasClosureWeighting, AreOrdered, IsLeastWeighting}
use Rattle.open_dominance.proofs.PermutedLemmas.{dot-in_order}
use Rattle.open_dominance.proofs.SumLemmas.{weighted_by_sums}
use Rattle.swing_weights.specs.Score.{checked_score}
use Rattle.swing_weights.proofs.ScoreLemmas.{checked_score-means, checked_score-fraction}

-- ---- writings in order

same_in_order : (fs : List Fraction) (w : List ℤ) (n : ℤ) (order : List ℕ) → All (λ c. c < length fs) order → IsWriting fs w n
    → SameFractions (over (in_order (pos 0) order w) n) (in_order (fraction_of (pos 0)) order fs)
same_in_order fs w n [] within h = tt
same_in_order fs w n (c ∷ order) within h = (
  IsWriting-at fs w n c (pos 0) (fraction_of (pos 0)) (All-head (λ c. c < length fs) c order within) h,
  same_in_order fs w n order (All-tail (λ c. c < length fs) c order within) h,
)

ordered : (fs : List Fraction) (w : List ℤ) (n : ℤ) (order : List ℕ) → All (λ c. c < length fs) order → IsWriting fs w n
    → AreOrdered order fs (in_order (pos 0) order w) n
ordered fs w n order within h = record { den_pos = h.den_pos; same = same_in_order fs w n order within h }

-- the common writing
in_common : (fs : List Fraction) (order : List ℕ) → AreFractions fs → All (λ c. c < length fs) order
    → AreOrdered order fs (in_order (pos 0) order (common_nums fs)) (common_den fs)
in_common fs order pf within = ordered fs (common_nums fs) (common_den fs) order within (common_writing fs pf)

pub some_weighting : (m : Judgements) (order : List ℕ) (weights : List Fraction) → AreFractions weights → All (λ c. c < length weights) order
    → AreClosureWeights m order weights → HasClosureWeighting m
some_weighting m order weights pw within h =
    let k = in_order (pos 0) order (common_nums weights) in
    (k, (common_den weights, h k (common_den weights) (in_common weights order pw within)))

-- ---- sums along the order

-- a sum and a number more
one_more : (z x d : ℤ) (s f t : Fraction) → IsFraction s → IsFraction f → SameFraction (record { num = z; den = d }) s → SameFraction (record { num = x; den = d }) f
    → SameFraction t (fraction_sum s f) → SameFraction (record { num = z +ℤ x; den = d }) t
one_more z x d s f t ps pf is_s is_f is_t =
    cancel_eq ((z +ℤ x) *ℤ t.den) (t.num *ℤ d) (s.den *ℤ f.den) (mul_pos s.den f.den ps pf)
    (combine9 (λ z x d a b p q m n. (z ⊕ x) ⊗ n ⊗ (b ⊗ q) ≗ m ⊗ d ⊗ (b ⊗ q) ⇐ (n ⊗ q) ✶ (z ⊗ b ≗ a ⊗ d) ∷ (n ⊗ b) ✶ (x ⊗ q ≗ p ⊗ d)
    ∷ neg d ✶ (m ⊗ (b ⊗ q) ≗ (a ⊗ q ⊕ p ⊗ b) ⊗ n) ∷ []) refl
    z x d s.num s.den f.num f.den t.num t.den is_s is_f is_t)

-- what a sum that stays says
record Stays (value : Fraction) (fs : List Fraction) : Type 0 where
  pub sum : Fraction
  pub is : IsValued value sum
  pub nonneg : pos 0 ≤ℤ sum.num
  pub rest : sums_stay sum fs ≡ true

by_sign : (b : Bool) (fs : List Fraction) (sum : Fraction) → elim b [ true ↦ false | false ↦ sums_stay sum fs ] ≡ true → (b ≡ false) × (sums_stay sum fs ≡ true)
by_sign true fs sum h = absurd (let e = h in cc)
by_sign false fs sum h = (refl, h)

by_result : (r : Result Fraction TooWide) (value : Fraction) (fs : List Fraction) → IfOk r (IsValued value)
    → elim r [ Ok sum ↦ elim (is_below_zero sum) [ true ↦ false | false ↦ sums_stay sum fs ] | Err e ↦ false ] ≡ true → Stays value fs
by_result (Ok sum) value fs is h =
    let both = by_sign (is_below_zero sum) fs sum h in
    record { sum = sum; is = is; nonneg = (int_lt-false sum.num (pos 0)).0 both.0; rest = both.1 }
by_result (Err e) value fs is h = absurd (let e = h in cc)

stays : (s : Fraction) (z d : ℤ) (fs : List Fraction) (g : List ℤ) → IsFraction s → SameFraction (record { num = z; den = d }) s → AreFractions fs
    → IsWriting fs g d → sums_stay s fs ≡ true → AreNonNegative (running_sums z g)
unfolding sums_stay
stays s z d [] [] ps is_s pf w h = All-nil (λ x. pos 0 ≤ℤ x)
stays s z d [] (x ∷ g) ps is_s pf w h = absurd w.same
stays s z d (f ∷ fs) [] ps is_s pf w h = absurd w.same
stays s z d (f ∷ fs) (x ∷ g) ps is_s pf w h =
    let first = All-head IsFraction f fs pf in
    let next = by_result (checked_sum s f) (fraction_sum s f) fs (checked_sum-value s f ps first) h in
    let same = one_more z x d s f next.sum ps first is_s w.same.0 next.is.1 in
    let above = mul_nonneg next.sum.num d next.nonneg (le_of_lt (pos 0) d w.den_pos) in
    All-cons (λ y. pos 0 ≤ℤ y) (z +ℤ x) (running_sums (z +ℤ x) g)
    (nonneg_of_mul (z +ℤ x) next.sum.den next.is.0 (subst (λ y. pos 0 ≤ℤ y) (sym same) above))
    (stays next.sum (z +ℤ x) d fs g next.is.0 same (All-tail IsFraction f fs pf) (record { den_pos = w.den_pos; same = w.same.1 }) next.rest)

pub above_by_sums : (m : Judgements) (order : List ℕ) (gaps : List Fraction) → AreFractions gaps → All (λ c. c < length gaps) order
    → is_above_by_sums order gaps ≡ true → IsNeverBelow m order gaps
above_by_sums m order gaps pg within h k n weighting g d w =
    let fs = in_order (fraction_of (pos 0)) order gaps in
    let zero : SameFraction (record { num = pos 0; den = d }) (fraction_of (pos 0)) = ring1 (λ d. con (pos 0) ⊗ con (pos 1) ≗ con (pos 0) ⊗ d) refl d in
    weighted_by_sums m g k n (stays (fraction_of (pos 0)) (pos 0) d fs g (IsFraction-whole (pos 0)) zero
    (All-in_order IsFraction (fraction_of (pos 0)) order gaps within pg) w h) weighting

-- ---- the sum by the weights

below_from : (weights gaps : List Fraction) (r : Result Fraction TooWide) → checked_score weights gaps ≡ r → gives_below r ≡ true
    → (s : Fraction) × ((checked_score weights gaps ≡ Ok s) × (s.num <ℤ pos 0))
below_from weights gaps (Ok s) is h = (s, (is, (int_lt-Decides s.num (pos 0)).0 h))
below_from weights gaps (Err e) is h = absurd (let e = h in cc)

pub below_by_weights : (m : Judgements) (order : List ℕ) (weights gaps : List Fraction) → AreFractions weights → AreFractions gaps
    → length weights ≡ length gaps → IsOrder (length gaps) order → AreClosureWeights m order weights
    → is_below_by_weights weights gaps ≡ true → ¬ IsNeverBelow m order gaps
below_by_weights m order weights gaps pw pg each o are h never =
    let below = below_from weights gaps (checked_score weights gaps) refl h in
    let s = below.0 in
    let k = common_nums weights in
    let d = common_den weights in
    let g = common_nums gaps in
    let e = common_den gaps in
    let wk = common_writing weights pw in
    let wg = common_writing gaps pg in
    let long_k = IsWriting-length weights k d wk in
    let long_g = IsWriting-length gaps g e wg in
    let within = subst (λ n. All (λ c. c < n) order) (sym each) o.within in
    let sum = never (in_order (pos 0) order k) d (are (in_order (pos 0) order k) d (in_common weights order pw within)) (in_order (pos 0) order g) e
    (in_common gaps order pg o.within) in
    let same = dot-in_order k g order (long_k ∙ each ∙ sym long_g) (subst (λ n. IsOrder n order) (sym (long_k ∙ each)) o) in
    let value = checked_score-means weights gaps s pw pg below.1.0 k d g e wk wg in
    let ps = checked_score-fraction weights gaps s pw pg below.1.0 in
    let up = mul_nonneg (dot k g) s.den (subst (λ z. pos 0 ≤ℤ z) same sum) (le_of_lt (pos 0) s.den ps) in
    let nonneg = nonneg_of_mul s.num (d *ℤ e) (mul_pos d e wk.den_pos wg.den_pos) (subst (λ z. pos 0 ≤ℤ z) (sym value) up) in
    let under = below.1.1 in
    absurd (omega (arith, lin, nonneg, under))

-- ---- the weighting minimum

pub above_by_minimum : (m : Judgements) (order : List ℕ) (gaps : List Fraction) (least : Fraction) (weights : List Fraction) → AreFractions gaps
    → All (λ c. c < length gaps) order → IsFraction least → IsLeastWeighting m order gaps least weights
    → (pos 0 ≤ℤ least.num) ↔ IsNeverBelow m order gaps
above_by_minimum m order gaps least weights pg within pl h = (to, from)
  where
    to : pos 0 ≤ℤ least.num → IsNeverBelow m order gaps
    to nonneg k n weighting g d w =
        let nd = mul_pos n d weighting.weights.scale.den_pos w.den_pos in
        let up = mul_nonneg least.num (n *ℤ d) nonneg (le_of_lt (pos 0) (n *ℤ d) nd) in
        nonneg_of_mul (dot k g) least.den pl (le_trans (pos 0) (least.num *ℤ (n *ℤ d)) (dot k g *ℤ least.den) up (h.none_below k n weighting g d w))

    from : IsNeverBelow m order gaps → pos 0 ≤ℤ least.num
    from never =
        let g = in_order (pos 0) order (common_nums gaps) in
        let d = common_den gaps in
        let w = in_common gaps order pg within in
        let up = mul_nonneg (dot h.at g) least.den (never h.at h.over h.among g d w) (le_of_lt (pos 0) least.den pl) in
        nonneg_of_mul least.num (h.over *ℤ d) (mul_pos h.over d h.among.weights.scale.den_pos w.den_pos) (subst (λ z. pos 0 ≤ℤ z) (h.attained g d w) up)
