-- The steps of a score, and its value.
use Rattle.std.specs.Result.{IfOk}
use Rattle.std.proofs.Common.{◌≡◌, ℕ, ◌+◌, ◌<◌, ℤ, pos, ◌+ℤ◌, ◌*ℤ◌, List, [], ◌∷◌, length, drop, get_or, refl, Result, Ok, Err}
use Rattle.std.proofs.lemmas.List.{drop_more}
use Rattle.std.proofs.lemmas.List.Elements.{All-head, All-tail}
use Rattle.std.proofs.lemmas.Result.{IfOk-weaker, IfOk-at_ok}
use Rattle.integers.specs.Fraction.{Fraction, IsFraction, AreFractions, SameFraction, IsWriting, fraction_of, fraction_sum, fraction_product}
use Rattle.integers.specs.Vector.{dot}
use Rattle.integers.proofs.Divisibility.{IsLowest-whole}
use Rattle.integers.proofs.Fractions.{SameFraction-sym, SameFraction-trans}
use Rattle.integers.proofs.FractionSums.{fraction_sum-same, fraction_product-same, fraction_sum_assoc, IsFraction-sum, IsFraction-product, IsFraction-whole}
use Rattle.integers.proofs.Fractions.{SameFraction-refl}
use Rattle.integers.proofs.Order.{mul_pos}
use Rattle.integers.proofs.Ring.{con, ◌⊕◌, ◌⊗◌, ◌≗◌, ◌✶◌, ◌⇐◌, ring3, ring5, combine4}
use Rattle.frac128.specs.Chain.{◌>>=◌}
use Rattle.frac128.specs.Checked.{checked_sum, checked_product}
use Rattle.frac128.specs.Frac.{IsReduced}
use Rattle.frac128.specs.declared.number.TooWide.{TooWide}
use Rattle.frac128.proofs.FormulaLemmas.{IfOk-bind, IsValued, checked_sum-value, checked_product-value}
use Rattle.frac128.proofs.ReducedLemmas.{checked_sum-reduced, checked_product-reduced}
use Rattle.swing_weights.specs.Score.{checked_score_from, checked_score, IsScore}

-- the sum with the criterion at a place, and then the rest
pub score_step : (s x y : Fraction) (ks vs : List Fraction) (i : ℕ) → i < length ks → i < length vs → x ≡ get_or ks i x → y ≡ get_or vs i y
    → checked_score_from s (drop i ks) (drop i vs)
    ≡ ((checked_product x y) >>= (λ part. (checked_sum s part) >>= (λ sum. checked_score_from sum (drop (i + 1) ks) (drop (i + 1) vs))))
unfolding checked_score_from
score_step s x y ks vs i p q is_x is_y = rw (drop_more ks i x p, drop_more vs i y q, ← is_x, ← is_y)

-- the products of numbers over d with numbers over n, summed
abbrev products_over : List ℤ → ℤ → List ℤ → ℤ → Fraction
products_over k d v n = record { num = dot k v; den = d *ℤ n }

-- a first product and the others
one_more : (x y d n rest : ℤ) → SameFraction (fraction_sum (fraction_product (record { num = x; den = d }) (record { num = y; den = n })) (record { num = rest; den = d *ℤ n })) (record { num = x *ℤ y +ℤ rest; den = d *ℤ n })
one_more = ring5 (λ x y d n r. (x ⊗ y ⊗ (d ⊗ n) ⊕ r ⊗ (d ⊗ n)) ⊗ (d ⊗ n) ≗ (x ⊗ y ⊕ r) ⊗ (d ⊗ n ⊗ (d ⊗ n))) refl

-- nothing more
pub no_more : (s : Fraction) (m : ℤ) → SameFraction s (fraction_sum s (record { num = pos 0; den = m }))
no_more s m = ring3 (λ a b m. a ⊗ (b ⊗ m) ≗ (a ⊗ m ⊕ con (pos 0) ⊗ b) ⊗ b) refl s.num s.den m

-- a part is added, and then the rest
pub chained : (s part sum r first rest whole : Fraction) → IsFraction s → IsFraction part → IsFraction sum → IsFraction r → IsFraction first → IsFraction rest → IsFraction whole
    → SameFraction part first → SameFraction sum (fraction_sum s part) → SameFraction r (fraction_sum sum rest) → SameFraction (fraction_sum first rest) whole
    → SameFraction r (fraction_sum s whole)
chained s part sum r first rest whole ps pp pm pr pf pt pw part_is sum_is r_is whole_is =
    let behind = SameFraction-trans (fraction_sum part rest) (fraction_sum first rest) whole (IsFraction-sum part rest pp pt) (IsFraction-sum first rest pf pt) pw
    (fraction_sum-same part rest first rest part_is (SameFraction-refl rest)) whole_is in
    let joined = SameFraction-trans (fraction_sum (fraction_sum s part) rest) (fraction_sum s (fraction_sum part rest)) (fraction_sum s whole)
    (IsFraction-sum (fraction_sum s part) rest (IsFraction-sum s part ps pp) pt) (IsFraction-sum s (fraction_sum part rest) ps (IsFraction-sum part rest pp pt)) (IsFraction-sum s whole ps pw)
    (fraction_sum_assoc s part rest) (fraction_sum-same s (fraction_sum part rest) s whole (SameFraction-refl s) behind) in
    let spread = SameFraction-trans r (fraction_sum sum rest) (fraction_sum (fraction_sum s part) rest) pr (IsFraction-sum sum rest pm pt) (IsFraction-sum (fraction_sum s part) rest (IsFraction-sum s part ps pp) pt)
    r_is (fraction_sum-same sum rest (fraction_sum s part) rest sum_is (SameFraction-refl rest)) in
    SameFraction-trans r (fraction_sum (fraction_sum s part) rest) (fraction_sum s whole) pr (IsFraction-sum (fraction_sum s part) rest (IsFraction-sum s part ps pp) pt) (IsFraction-sum s whole ps pw) spread joined

-- a score from s on is s and the products
pub score_value : (s : Fraction) (ks vs : List Fraction) (k : List ℤ) (d : ℤ) (v : List ℤ) (n : ℤ) → IsFraction s → AreFractions ks → AreFractions vs
    → IsWriting ks k d → IsWriting vs v n → IfOk (checked_score_from s ks vs) (IsValued (fraction_sum s (products_over k d v n)))
unfolding checked_score_from
score_value s [] vs [] d v n ps pk pv wk wv = (ps, no_more s (d *ℤ n))
score_value s [] vs (x ∷ k) d v n ps pk pv wk wv = absurd wk.same
score_value s (f ∷ ks) vs [] d v n ps pk pv wk wv = absurd wk.same
score_value s (f ∷ ks) [] (x ∷ k) d [] n ps pk pv wk wv = (ps, no_more s (d *ℤ n))
score_value s (f ∷ ks) [] (x ∷ k) d (y ∷ v) n ps pk pv wk wv = absurd wv.same
score_value s (f ∷ ks) (g ∷ vs) (x ∷ k) d [] n ps pk pv wk wv = absurd wv.same
score_value s (f ∷ ks) (g ∷ vs) (x ∷ k) d (y ∷ v) n ps pk pv wk wv =
    let pf = All-head IsFraction f ks pk in
    let pg = All-head IsFraction g vs pv in
    let a : Fraction = record { num = x; den = d } in
    let b : Fraction = record { num = y; den = n } in
    let rest = products_over k d v n in
    let whole = products_over (x ∷ k) d (y ∷ v) n in
    let wide = mul_pos d n wk.den_pos wv.den_pos in
    let first_is = SameFraction-sym (fraction_product a b) (fraction_product f g) (fraction_product-same a b f g wk.same.0 wv.same.0) in
    IfOk-bind (checked_product f g) (λ part. (checked_sum s part) >>= (λ sum. checked_score_from sum ks vs)) (IsValued (fraction_product f g)) (IsValued (fraction_sum s whole)) (checked_product-value f g pf pg) (λ part hp.
    IfOk-bind (checked_sum s part) (λ sum. checked_score_from sum ks vs) (IsValued (fraction_sum s part)) (IsValued (fraction_sum s whole)) (checked_sum-value s part ps hp.0) (λ sum hs.
    IfOk-weaker (checked_score_from sum ks vs) (IsValued (fraction_sum sum rest)) (IsValued (fraction_sum s whole))
    (λ r hr. (
      hr.0,
      chained s part sum r (fraction_product a b) rest whole ps hp.0 hs.0 hr.0 wide wide wide
          (SameFraction-trans part (fraction_product f g) (fraction_product a b) hp.0 (IsFraction-product f g pf pg) wide hp.1 first_is) hs.1 hr.1 (one_more x y d n (dot k v)),
    ))
    (score_value sum ks vs k d v n hs.0 (All-tail IsFraction f ks pk) (All-tail IsFraction g vs pv)
    (record { den_pos = wk.den_pos; same = wk.same.1 }) (record { den_pos = wv.den_pos; same = wv.same.1 }))))

-- 0 and a fraction is that fraction
pub from_zero : (s f : Fraction) → SameFraction s (fraction_sum (fraction_of (pos 0)) f) → SameFraction s f
from_zero s f h = combine4 (λ a b p d. a ⊗ d ≗ p ⊗ b ⇐ con (pos 1) ✶ (a ⊗ (con (pos 1) ⊗ d) ≗ (con (pos 0) ⊗ d ⊕ p ⊗ con (pos 1)) ⊗ b) ∷ []) refl s.num s.den f.num f.den h

-- what holds for each writing holds of the result
for_each_writing : (ks vs : List Fraction) (r : Result Fraction TooWide)
    → ((k : List ℤ) (d : ℤ) (v : List ℤ) (n : ℤ) → IsWriting ks k d → IsWriting vs v n → IfOk r (IsValued (fraction_sum (fraction_of (pos 0)) (products_over k d v n))))
    → IfOk r (IsScore ks vs)
for_each_writing ks vs (Ok s) h = λ k d v n wk wv. from_zero s (products_over k d v n) ((h k d v n wk wv).1)
for_each_writing ks vs (Err e) h = tt

-- a score is the sum of the products, however the weights and values are written
pub score_is : (ks vs : List Fraction) → AreFractions ks → AreFractions vs → IfOk (checked_score ks vs) (IsScore ks vs)
score_is ks vs pk pv = for_each_writing ks vs (checked_score ks vs) (λ k d v n wk wv. score_value (fraction_of (pos 0)) ks vs k d v n (IsFraction-whole (pos 0)) pk pv wk wv)

-- it is in lowest terms
score_reduced : (s : Fraction) (ks vs : List Fraction) → IsReduced s → AreFractions ks → AreFractions vs → IfOk (checked_score_from s ks vs) IsReduced
unfolding checked_score_from
score_reduced s [] vs low pk pv = low
score_reduced s (f ∷ ks) [] low pk pv = low
score_reduced s (f ∷ ks) (g ∷ vs) low pk pv =
    IfOk-bind (checked_product f g) (λ part. (checked_sum s part) >>= (λ sum. checked_score_from sum ks vs)) IsReduced IsReduced
    (checked_product-reduced f g (All-head IsFraction f ks pk) (All-head IsFraction g vs pv)) (λ part hp.
    IfOk-bind (checked_sum s part) (λ sum. checked_score_from sum ks vs) IsReduced IsReduced (checked_sum-reduced s part low.0 hp.0) (λ sum hs.
    score_reduced sum ks vs hs (All-tail IsFraction f ks pk) (All-tail IsFraction g vs pv)))

-- ---- what the formula gives

pub checked_score-means : (ks vs : List Fraction) (score : Fraction) → AreFractions ks → AreFractions vs → checked_score ks vs ≡ Ok score → IsScore ks vs score
checked_score-means ks vs score pk pv is = IfOk-at_ok (IsScore ks vs) is (score_is ks vs pk pv)

pub checked_score-reduced : (ks vs : List Fraction) (score : Fraction) → AreFractions ks → AreFractions vs → checked_score ks vs ≡ Ok score → IsReduced score
checked_score-reduced ks vs score pk pv is =
    let nought = fraction_of (pos 0) in
    IfOk-at_ok IsReduced is (score_reduced nought ks vs (IsFraction-whole (pos 0), IsLowest-whole (pos 0)) pk pv)

pub checked_score-fraction : (ks vs : List Fraction) (score : Fraction) → AreFractions ks → AreFractions vs → checked_score ks vs ≡ Ok score → IsFraction score
checked_score-fraction ks vs score pk pv is = (checked_score-reduced ks vs score pk pv is).0
