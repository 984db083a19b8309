-- What the formula of weights gives: each swing over the sum of the swings, which is above 0.
use Rattle.std.specs.Result.{IfOk}
use Rattle.std.proofs.Common.{◌≡◌, ◌≢◌, ℕ, zero, suc, ◌+◌, ◌-◌, ◌≤◌, ◌<◌, ℤ, pos, ◌+ℤ◌, ◌*ℤ◌, ◌<ℤ◌, ◌≤ℤ◌, ◌⊎◌, inl, inr, List, [], ◌∷◌, All, take, length, get_or, refl, ap, subst, sym, ◌∙◌, Result, Ok, Err, arith}
use Rattle.std.proofs.lemmas.List.Elements.{All-nil, All-cons, All-head, All-tail, All-take}
use Rattle.std.proofs.lemmas.Result.{IfOk-weaker, IfOk-at_ok}
use Rattle.std.proofs.lemmas.List.{get_or_default, length-take-le}
use lib.IntN.{zero-*ℤ}
use Rattle.std.specs.Int.Signed.{le_z_yes}
use Rattle.integers.specs.Fraction.{Fraction, IsFraction, AreFractions, SameFraction, IsWriting, fraction_of, fraction_sum, fraction_quotient}
use Rattle.integers.specs.Vector.{scale, int_sum}
use Rattle.integers.proofs.Fractions.{SameFraction-sym}
use Rattle.integers.proofs.FractionSums.{IsFraction-whole}
use Rattle.integers.proofs.Laws.{lin}
use Rattle.integers.proofs.Order.{mul_pos, mul_nonneg, le_of_lt, le_antisymm, lt_cases, pos_of_mul, nonneg_of_mul, cancel_le, cancel_eq}
use Rattle.integers.proofs.Ring.{neg, ◌⊕◌, ◌⊗◌, ◌≗◌, ◌✶◌, ◌⇐◌, ring3, combine11}
use Rattle.integers.proofs.Writings.{IsWriting-length}
use Rattle.frac128.specs.Chain.{◌>>=◌}
use Rattle.frac128.specs.Checked.{Gives, checked_sum, checked_quotient}
use Rattle.frac128.specs.Frac.{IsReduced}
use Rattle.frac128.proofs.FormulaLemmas.{IfOk-bind, IsValued, checked_sum-value, checked_quotient-value}
use Rattle.judgement_matrix.specs.Values.{fraction_at}
use Rattle.swing_weights.specs.Weights.{checked_total_from, checked_shares, checked_weights, swings, AreFalling, AreAllZero, AreShares, AreWeights, TotalIsNotZero, FaultSays, AnswersValues}
use Rattle.swing_weights.specs.declared.weighing.WeightFault.{WeightFault}
use Rattle.swing_weights.specs.declared.weighing.WeightFault.TheVariants as fault
use Rattle.value_scale.proofs.BasicLemmas.{IsWriting-take}
use Rattle.frac128.proofs.ReducedLemmas.{checked_quotient-reduced, reduced_are_fractions}
use Rattle.swing_weights.proofs.ScoreLemmas.{no_more, chained, from_zero}

-- ---- a share

-- a swing x over n and a sum t over n make the share k over d: t k = d x
share_is : (t k d x n : ℤ) (share f total : Fraction) → IsFraction share → IsFraction f → IsFraction total
    → SameFraction (record { num = k; den = d }) share → SameFraction share (fraction_quotient f total)
    → SameFraction (record { num = x; den = n }) f → SameFraction (record { num = t; den = n }) total → t *ℤ k ≡ d *ℤ x
share_is t k d x n share f total ps pf pt e1 e2 e3 e4 =
    cancel_eq (t *ℤ k) (d *ℤ x) (share.den *ℤ f.den *ℤ total.den) (mul_pos (share.den *ℤ f.den) total.den (mul_pos share.den f.den ps pf) pt)
    (combine11 (λ t k d x n sn sd fn fd tn td. t ⊗ k ⊗ (sd ⊗ fd ⊗ td) ≗ d ⊗ x ⊗ (sd ⊗ fd ⊗ td)
    ⇐ (t ⊗ fd ⊗ td) ✶ (k ⊗ sd ≗ sn ⊗ d) ∷ (d ⊗ n) ✶ (sn ⊗ (fd ⊗ tn) ≗ fn ⊗ td ⊗ sd) ∷ (neg (d ⊗ td ⊗ sd)) ✶ (x ⊗ fd ≗ fn ⊗ n) ∷ (fd ⊗ sn ⊗ d) ✶ (t ⊗ td ≗ tn ⊗ n) ∷ []) refl
    t k d x n share.num share.den f.num f.den total.num total.den e1 e2 e3 e4)

-- weights are shares, however they are written
abbrev pub AreSharesOf : ℤ → List ℤ → List Fraction → Type 0
AreSharesOf t w weights = (k : List ℤ) (d : ℤ) → IsWriting weights k d → scale t k ≡ scale d w

pub shares_value : (t : ℤ) (n : ℤ) (w : List ℤ) (total : Fraction) (fs : List Fraction) → AreFractions fs → IsFraction total → total.num ≢ pos 0
    → SameFraction (record { num = t; den = n }) total → IsWriting fs w n → IfOk (checked_shares total fs) (AreSharesOf t w)
unfolding checked_shares
shares_value t n [] total [] pf pt nt same w = none
  where
    none : AreSharesOf t [] []
    none [] d h = refl
    none (x ∷ k) d h = absurd h.same
shares_value t n (x ∷ w) total [] pf pt nt same h = absurd h.same
shares_value t n [] total (f ∷ fs) pf pt nt same h = absurd h.same
shares_value t n (x ∷ w) total (f ∷ fs) pf pt nt same h =
    let first = All-head IsFraction f fs pf in
    IfOk-bind (checked_quotient f total) (λ share. (checked_shares total fs) >>= (λ others. Ok (share ∷ others))) (IsValued (fraction_quotient f total)) (AreSharesOf t (x ∷ w)) (checked_quotient-value f total first nt) (λ share hs.
    IfOk-bind (checked_shares total fs) (λ others. Ok (share ∷ others)) (AreSharesOf t w) (AreSharesOf t (x ∷ w))
    (shares_value t n w total fs (All-tail IsFraction f fs pf) pt nt same (record { den_pos = h.den_pos; same = h.same.1 }))
    (λ others ho. both share others hs.0 hs.1 ho))
  where
    both : (share : Fraction) (others : List Fraction) → IsFraction share → SameFraction share (fraction_quotient f total) → AreSharesOf t w others → AreSharesOf t (x ∷ w) (share ∷ others)
    both share others ps is rest [] d k = absurd k.same
    both share others ps is rest (y ∷ ks) d k =
        ap (λ z. z ∷ scale t ks) (share_is t y d x n share f total ps (All-head IsFraction f fs pf) pt k.same.0 is h.same.0 same)
        ∙ ap (λ zs. (d *ℤ x) ∷ zs) (rest ks d (record { den_pos = k.den_pos; same = k.same.1 }))

-- ---- the sum

-- the sum from s on is s and the sum of the numbers
pub total_value : (s : Fraction) (fs : List Fraction) (w : List ℤ) (n : ℤ) → IsFraction s → AreFractions fs → IsWriting fs w n
    → IfOk (checked_total_from s fs) (IsValued (fraction_sum s (record { num = int_sum w; den = n })))
unfolding checked_total_from
total_value s [] [] n ps pf h = (ps, no_more s n)
total_value s [] (x ∷ w) n ps pf h = absurd h.same
total_value s (f ∷ fs) [] n ps pf h = absurd h.same
total_value s (f ∷ fs) (x ∷ w) n ps pf h =
    let first = All-head IsFraction f fs pf in
    let a : Fraction = record { num = x; den = n } in
    let rest : Fraction = record { num = int_sum w; den = n } in
    let whole : Fraction = record { num = x +ℤ int_sum w; den = n } in
    let together : SameFraction (fraction_sum a rest) whole = ring3 (λ x y n. (x ⊗ n ⊕ y ⊗ n) ⊗ n ≗ (x ⊕ y) ⊗ (n ⊗ n)) refl x (int_sum w) n in
    IfOk-bind (checked_sum s f) (λ sum. checked_total_from sum fs) (IsValued (fraction_sum s f)) (IsValued (fraction_sum s whole)) (checked_sum-value s f ps first) (λ sum hs.
    IfOk-weaker (checked_total_from sum fs) (IsValued (fraction_sum sum rest)) (IsValued (fraction_sum s whole))
    (λ r hr. (hr.0, chained s f sum r a rest whole ps first hs.0 hr.0 h.den_pos h.den_pos h.den_pos (SameFraction-sym a f h.same.0) hs.1 hr.1 together))
    (total_value sum fs w n hs.0 (All-tail IsFraction f fs pf) (record { den_pos = h.den_pos; same = h.same.1 })))

-- a number above 0 and one of at least 0 have a sum above 0
sum_positive : (s f t : Fraction) → IsFraction s → IsFraction f → IsFraction t → pos 0 <ℤ s.num → pos 0 ≤ℤ f.num → SameFraction t (fraction_sum s f) → pos 0 <ℤ t.num
sum_positive s f t ps pf pt above nonneg h =
    let a = mul_pos s.num f.den above pf in
    let b : pos 0 ≤ℤ (f.num *ℤ s.den) = mul_nonneg f.num s.den nonneg (le_of_lt (pos 0) s.den ps) in
    let sum : pos 0 <ℤ (s.num *ℤ f.den +ℤ f.num *ℤ s.den) = omega (arith, lin, a, b) in
    pos_of_mul t.num (s.den *ℤ f.den) (mul_pos s.den f.den ps pf) (subst (λ z. pos 0 <ℤ z) (sym h) (mul_pos (s.num *ℤ f.den +ℤ f.num *ℤ s.den) t.den sum pt))

-- a number above 0 and others of at least 0 have a sum above 0
pub total_positive : (s : Fraction) (fs : List Fraction) → IsFraction s → pos 0 <ℤ s.num → AreFractions fs → All (λ (f : Fraction). pos 0 ≤ℤ f.num) fs
    → IfOk (checked_total_from s fs) (λ total. pos 0 <ℤ total.num)
unfolding checked_total_from
total_positive s [] ps above pf nonneg = above
total_positive s (f ∷ fs) ps above pf nonneg =
    let first = All-head IsFraction f fs pf in
    IfOk-bind (checked_sum s f) (λ sum. checked_total_from sum fs) (IsValued (fraction_sum s f)) (λ total. pos 0 <ℤ total.num) (checked_sum-value s f ps first) (λ sum hs.
    total_positive sum fs hs.0 (sum_positive s f sum ps first hs.0 above (All-head (λ (f : Fraction). pos 0 ≤ℤ f.num) f fs nonneg) hs.1)
    (All-tail IsFraction f fs pf) (All-tail (λ (f : Fraction). pos 0 ≤ℤ f.num) f fs nonneg))

-- ---- the values of a scale

at_is : (values : List Fraction) (k : ℕ) (d : Fraction) → k < length values → fraction_at values (k + 1) ≡ get_or values k d
at_is values k d below = ap (λ i. get_or values i (fraction_of (pos 0))) (omega arith) ∙ get_or_default values k (fraction_of (pos 0)) d below

positive_at : (values : List Fraction) (q : ℕ) → AreFractions values → 1 ≤ q → q ≤ length values → IsFraction (fraction_at values q)
positive_at values q pf least most = pf (q - 1) (fraction_of (pos 0)) (omega arith)

lt_or_last : (q n : ℕ) → q ≤ n → (q < n) ⊎ (q ≡ n)
lt_or_last q n h = grind (arith, h)

first_or_later : (k : ℕ) → (k ≡ 0) ⊎ (0 < k)
first_or_later zero = inl refl
first_or_later (suc k) = inr (omega arith)

-- no value is below 0
nonneg_at : (values : List Fraction) (q : ℕ) → AreFractions values → AreFalling values → 1 ≤ q → q < length values → pos 0 ≤ℤ (fraction_at values q).num
nonneg_at values q pf h least most =
    let last = length values in
    let below = h.falling q last (least, most, omega arith) in
    nonneg_of_mul (fraction_at values q).num (fraction_at values last).den (positive_at values last pf (omega arith) (omega arith))
    (subst (λ z. z ≤ℤ ((fraction_at values q).num *ℤ (fraction_at values last).den)) (ap (λ z. z *ℤ (fraction_at values q).den) h.ends ∙ zero-*ℤ (fraction_at values q).den) below)

pub none_below_zero : (values : List Fraction) → AreFractions values → AreFalling values → All (λ (f : Fraction). pos 0 ≤ℤ f.num) values
none_below_zero values pf h k d below = subst (λ (f : Fraction). pos 0 ≤ℤ f.num) (at_is values k d below) (at_place (lt_or_last (k + 1) (length values) (omega arith)))
  where
    at_place : (k + 1 < length values) ⊎ (k + 1 ≡ length values) → pos 0 ≤ℤ (fraction_at values (k + 1)).num
    at_place (inl within) = nonneg_at values (k + 1) pf h (omega arith) within
    at_place (inr last) = subst (λ q. pos 0 ≤ℤ (fraction_at values q).num) (sym last) (subst (λ z. pos 0 ≤ℤ z) (sym h.ends) (le_z_yes tt))

-- where the first is 0 all are
pub all_zero : (values : List Fraction) (d : Fraction) → AreFractions values → AreFalling values → (get_or values 0 d).num ≡ pos 0 → AreAllZero values
all_zero values d pf h first k e below =
    le_antisymm (get_or values k e).num (pos 0) (subst (λ (f : Fraction). f.num ≤ℤ pos 0) (at_is values k e below) (at_most (first_or_later k)))
    (none_below_zero values pf h k e below)
  where
    top : (fraction_at values 1).num ≡ pos 0
    top = ap (λ (f : Fraction). f.num) (at_is values 0 d (omega (arith, below))) ∙ first

    at_most : (k ≡ 0) ⊎ (0 < k) → (fraction_at values (k + 1)).num ≤ℤ pos 0
    at_most (inl is) = subst (λ i. (fraction_at values (i + 1)).num ≤ℤ pos 0) (sym is) (subst (λ z. z ≤ℤ pos 0) (sym top) (le_z_yes tt))
    at_most (inr later) =
        let p1 = positive_at values 1 pf (omega arith) (omega (arith, below)) in
        cancel_le (fraction_at values (k + 1)).num (pos 0) (fraction_at values 1).den p1
        (subst (λ z. ((fraction_at values (k + 1)).num *ℤ (fraction_at values 1).den) ≤ℤ z) (ap (λ z. z *ℤ (fraction_at values (k + 1)).den) top ∙ zero-*ℤ (fraction_at values (k + 1)).den ∙ sym (zero-*ℤ (fraction_at values 1).den))
        (h.falling 1 (k + 1) (omega arith, omega (arith, later), omega (arith, below))))

-- ---- facts of a result

any : {A E : Type 0} (r : Result A E) → IfOk r (λ x. Unit {0})
any (Ok x) = tt
any (Err e) = tt

both_ok : {A E : Type 0} (r : Result A E) (P Q : A → Type 0) → IfOk r P → IfOk r Q → IfOk r (λ x. P x × Q x)
both_ok (Ok x) P Q p q = (p, q)
both_ok (Err e) P Q p q = tt

each_ok : {A E : Type 0} (r : Result A E) (R : List ℤ → ℤ → Type 0) (P : List ℤ → ℤ → A → Type 0) → ((w : List ℤ) (n : ℤ) → R w n → IfOk r (P w n)) → IfOk r (λ x. (w : List ℤ) (n : ℤ) → R w n → P w n x)
each_ok (Ok x) R P h = h
each_ok (Err e) R P h = tt

-- ---- the weights

swings_are : (f : Fraction) (fs : List Fraction) → 1 ≤ length fs → swings (f ∷ fs) ≡ f ∷ take (length fs - 1) fs
swings_are f fs some =
    let all_but_one : suc (length fs) - 1 ≡ suc (length fs - 1) = omega (arith, some) in
    ap (λ k. take k (f ∷ fs)) all_but_one

swings_written : (values : List Fraction) (w : List ℤ) (n : ℤ) → IsWriting values w n → IsWriting (swings values) (swings w) n
swings_written values w n h = subst (λ k. IsWriting (swings values) (take (k - 1) w) n) (sym (IsWriting-length values w n h)) (IsWriting-take (length values - 1) values w n h)

above_zero : (z : ℤ) → pos 0 ≤ℤ z → z ≢ pos 0 → pos 0 <ℤ z
above_zero z nonneg other = from (lt_cases (pos 0) z)
  where
    from : (pos 0 <ℤ z) ⊎ (pos 0 ≡ z) ⊎ (z <ℤ pos 0) → pos 0 <ℤ z
    from (inl above) = above
    from (inr (inl is)) = absurd (other (sym is))
    from (inr (inr below)) = absurd (omega (arith, lin, below, nonneg))

first_sum : (f t : Fraction) → IsFraction f → IsFraction t → pos 0 <ℤ f.num → SameFraction t (fraction_sum (fraction_of (pos 0)) f) → pos 0 <ℤ t.num
first_sum f t pf pt above h = pos_of_mul t.num f.den pf (subst (λ z. pos 0 <ℤ z) (sym (from_zero t f h)) (mul_pos f.num t.den above pt))

-- the sum of the swings is above 0
total_above : (values : List Fraction) (d : Fraction) → AreFractions values → AreFalling values → (get_or values 0 d).num ≢ pos 0
    → IfOk (checked_total_from (fraction_of (pos 0)) (swings values)) (λ total. pos 0 <ℤ total.num)
unfolding checked_total_from
total_above [] d pf h other = absurd (omega (arith, h.some))
total_above (f ∷ fs) d pf h other =
    let zero : Fraction = fraction_of (pos 0) in
    let first = All-head IsFraction f fs pf in
    let none = none_below_zero (f ∷ fs) pf h in
    let above = above_zero f.num (All-head (λ (f : Fraction). pos 0 ≤ℤ f.num) f fs none) other in
    let others = take (length fs - 1) fs in
    subst (λ sw. IfOk (checked_total_from zero sw) (λ total. pos 0 <ℤ total.num)) (sym (swings_are f fs (omega (arith, h.some))))
    (IfOk-bind (checked_sum zero f) (λ sum. checked_total_from sum others) (IsValued (fraction_sum zero f)) (λ total. pos 0 <ℤ total.num) (checked_sum-value zero f (IsFraction-whole (pos 0)) first) (λ sum hs.
    total_positive sum others hs.0 (first_sum f sum first hs.0 above hs.1) (All-take IsFraction (length fs - 1) fs (All-tail IsFraction f fs pf))
    (All-take (λ (f : Fraction). pos 0 ≤ℤ f.num) (length fs - 1) fs (All-tail (λ (f : Fraction). pos 0 ≤ℤ f.num) f fs none))))

not_zero : (z : ℤ) → pos 0 <ℤ z → z ≢ pos 0
not_zero z above is = let clash : pos 0 <ℤ pos 0 = subst (λ z. pos 0 <ℤ z) is above in absurd (omega (arith, lin, clash))

pub total_is_not_zero : (values : List Fraction) (d : Fraction) → AreFractions values → AreFalling values → (get_or values 0 d).num ≢ pos 0 → TotalIsNotZero values
total_is_not_zero values d pf h other =
    IfOk-weaker (checked_total_from (fraction_of (pos 0)) (swings values)) (λ total. pos 0 <ℤ total.num) (λ total. total.num ≢ pos 0) (λ total above. not_zero total.num above) (total_above values d pf h other)

-- the sum of the swings, however the values are written
abbrev IsTotal : List Fraction → Fraction → Type 0
IsTotal values total = (w : List ℤ) (n : ℤ) → IsWriting values w n → IsFraction total × SameFraction (record { num = int_sum (swings w); den = n }) total

total_is : (values : List Fraction) → AreFractions values → IfOk (checked_total_from (fraction_of (pos 0)) (swings values)) (IsTotal values)
total_is values pf =
    let zero : Fraction = fraction_of (pos 0) in
    let fits = All-take IsFraction (length values - 1) values pf in
    let sum : List ℤ → ℤ → Fraction = λ w n. record { num = int_sum (swings w); den = n } in
    let total = checked_total_from zero (swings values) in
    each_ok total (IsWriting values) (λ w n total. IsFraction total × SameFraction (sum w n) total) (λ w n h.
    IfOk-weaker total (IsValued (fraction_sum zero (sum w n))) (λ total. IsFraction total × SameFraction (sum w n) total)
    (λ total v. (v.0, SameFraction-sym total (sum w n) (from_zero total (sum w n) v.1)))
    (total_value zero (swings values) (swings w) n (IsFraction-whole (pos 0)) fits (swings_written values w n h)))

-- weights of the values
weights_are : (values : List Fraction) (d : Fraction) → AreFractions values → AreFalling values → (get_or values 0 d).num ≢ pos 0 → IfOk (checked_weights values) (AreWeights values)
unfolding checked_weights
weights_are values d pf h other =
    let sw = swings values in
    let ps = All-take IsFraction (length values - 1) values pf in
    IfOk-bind (checked_total_from (fraction_of (pos 0)) sw) (λ total. checked_shares total sw) (λ total. (pos 0 <ℤ total.num) × IsTotal values total) (AreWeights values)
    (both_ok (checked_total_from (fraction_of (pos 0)) sw) (λ total. pos 0 <ℤ total.num) (IsTotal values) (total_above values d pf h other) (total_is values pf)) (λ total ht.
    each_ok (checked_shares total sw) (IsWriting values) (λ w n weights. (k : List ℤ) (d : ℤ) → IsWriting weights k d → AreShares w k d) (λ w n written.
    IfOk-weaker (checked_shares total sw) (AreSharesOf (int_sum (swings w)) (swings w)) (λ weights. (k : List ℤ) (d : ℤ) → IsWriting weights k d → AreShares w k d)
    (λ weights each k d hk. record {
      sum_pos = pos_of_mul (int_sum (swings w)) total.den ((ht.1 w n written).0) (subst (λ z. pos 0 <ℤ z) (sym (ht.1 w n written).1) (mul_pos total.num n ht.0 written.den_pos));
      each = each k d hk;
    })
    (shares_value (int_sum (swings w)) n (swings w) total sw ps ((ht.1 w n written).0) (not_zero total.num ht.0) ((ht.1 w n written).1) (swings_written values w n written))))

not_all_zero : (values : List Fraction) (d : Fraction) → AreFalling values → (get_or values 0 d).num ≢ pos 0 → ¬ AreAllZero values
not_all_zero values d h other all = other (all 0 d (omega (arith, h.some)))

first_not_zero : (values : List Fraction) (d : Fraction) → AreFractions values → AreFalling values → ¬ AreAllZero values → (get_or values 0 d).num ≢ pos 0
first_not_zero values d pf h other is = other (all_zero values d pf h is)

-- ---- the formula

shares_length : (total : Fraction) (fs : List Fraction) → IfOk (checked_shares total fs) (λ weights. length weights ≡ length fs)
unfolding checked_shares
shares_length total [] = refl
shares_length total (f ∷ fs) =
    IfOk-bind (checked_quotient f total) (λ share. (checked_shares total fs) >>= (λ others. Ok (share ∷ others))) (λ share. Unit {0})
    (λ weights. length weights ≡ suc (length fs)) (any (checked_quotient f total)) (λ share u.
    IfOk-bind (checked_shares total fs) (λ others. Ok (share ∷ others)) (λ others. length others ≡ length fs) (λ weights. length weights ≡ suc (length fs))
    (shares_length total fs) (λ others h. ap suc h))

shares_reduced : (total : Fraction) (fs : List Fraction) → AreFractions fs → total.num ≢ pos 0 → IfOk (checked_shares total fs) (All IsReduced)
unfolding checked_shares
shares_reduced total [] pf nt = All-nil IsReduced
shares_reduced total (f ∷ fs) pf nt =
    IfOk-bind (checked_quotient f total) (λ share. (checked_shares total fs) >>= (λ others. Ok (share ∷ others))) IsReduced (All IsReduced)
    (checked_quotient-reduced f total (All-head IsFraction f fs pf) nt) (λ share hs.
    IfOk-bind (checked_shares total fs) (λ others. Ok (share ∷ others)) (All IsReduced) (All IsReduced)
    (shares_reduced total fs (All-tail IsFraction f fs pf) nt) (λ others ho. All-cons IsReduced share others hs ho))

pub checked_weights-means : (values weights : List Fraction) → AreFractions values → AreFalling values → ¬ AreAllZero values
    → checked_weights values ≡ Ok weights → AreWeights values weights
checked_weights-means values weights pf h other is =
    let nought = fraction_of (pos 0) in
    IfOk-at_ok (AreWeights values) is (weights_are values nought pf h (first_not_zero values nought pf h other))

-- there is a weight for each swing
pub checked_weights-length : (values weights : List Fraction) → checked_weights values ≡ Ok weights → length weights ≡ length values - 1
unfolding checked_weights
checked_weights-length values weights is =
    let sw = swings values in
    let each = IfOk-at_ok (λ (ws : List Fraction). length ws ≡ length sw) is
    (IfOk-bind (checked_total_from (fraction_of (pos 0)) sw) (λ total. checked_shares total sw) (λ total. Unit {0}) (λ ws. length ws ≡ length sw)
    (any (checked_total_from (fraction_of (pos 0)) sw)) (λ total u. shares_length total sw)) in
    each ∙ length-take-le (length values - 1) values (omega arith)

pub checked_weights-reduced : (values weights : List Fraction) → AreFractions values → AreFalling values → ¬ AreAllZero values
    → checked_weights values ≡ Ok weights → All IsReduced weights
unfolding checked_weights
checked_weights-reduced values weights pf h other is =
    let nought = fraction_of (pos 0) in
    let sw = swings values in
    IfOk-at_ok (All IsReduced) is
    (IfOk-bind (checked_total_from nought sw) (λ total. checked_shares total sw) (λ total. total.num ≢ pos 0) (All IsReduced)
    (total_is_not_zero values nought pf h (first_not_zero values nought pf h other))
    (λ total nt. shares_reduced total sw (All-take IsFraction (length values - 1) values pf) nt))

pub checked_weights-fractions : (values weights : List Fraction) → AreFractions values → AreFalling values → ¬ AreAllZero values
    → checked_weights values ≡ Ok weights → AreFractions weights
checked_weights-fractions values weights pf h other is = reduced_are_fractions weights (checked_weights-reduced values weights pf h other is)

-- what is answered for the values, from what the formula gives
pub answered : {V : Type 0} → (items : V → List Fraction) (values : List Fraction) (d : Fraction) (answer : Result V WeightFault) → AreFractions values → AreFalling values → (get_or values 0 d).num ≢ pos 0
    → Gives FaultSays items (checked_weights values) answer → AnswersValues items values answer
answered items values d (Ok given) pf h other gives =
    let some = not_all_zero values d h other in
    (some, gives, checked_weights-means values (items given) pf h some gives)
answered items values d (Err fault.TooWide) pf h other gives = (not_all_zero values d h other, gives)
answered items values d (Err fault.NoMemory) pf h other gives = not_all_zero values d h other
answered items values d (Err fault.Inconsistent) pf h other gives = gives
answered items values d (Err fault.Flat) pf h other gives = absurd gives
