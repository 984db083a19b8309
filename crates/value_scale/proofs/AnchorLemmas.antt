-- The values that the formula of an anchored scale gives.
use Rattle.std.specs.Result.{IfOk}
use Rattle.std.specs.Int.Signed.{lt_z_yes}
use mathlib.Core.List.{cons≢nil, head-eq_of_cons-eq, tail-eq_of_cons-eq}
use Rattle.std.proofs.lemmas.Int.{by_lt_z}
use Rattle.std.proofs.Common.{◌≡◌, ◌≢◌, ℕ, zero, suc, ◌-◌, ◌<◌, ℤ, pos, ◌+ℤ◌, ◌-ℤ◌, ◌*ℤ◌, neg_ℤ, ◌<ℤ◌, List, [], ◌∷◌, map, All, length, get_or, refl, sym, ap, ap₂, ◌∙◌, Result, Ok, Err, arith}
use Rattle.std.proofs.lemmas.List.Elements.{All-nil, All-cons, All-head, All-tail, All-get_or}
use Rattle.std.proofs.lemmas.Result.{IfOk-weaker, IfOk-at_ok}
use Rattle.integers.specs.Fraction.{Fraction, IsFraction, AreFractions, SameFraction, FractionAtMost, IsWriting, fraction_of, fraction_difference, fraction_product, fraction_quotient}
use Rattle.integers.specs.Vector.{scale}
use Rattle.integers.proofs.Laws.{lin}
use Rattle.integers.proofs.Order.{mul_pos, cancel_eq, cancel_lt, zero_of_mul, le_antisymm}
use Rattle.integers.proofs.Ring.{con, neg, ◌⊕◌, ◌⊖◌, ◌⊗◌, ◌≗◌, ◌≺◌, ◌✶◌, ◌⇐◌, ring2, combine2, combine4, combine6, combine7, combine9}
use Rattle.integers.proofs.FractionSums.{IsFraction-whole}
use Rattle.integers.proofs.Writings.{IsWriting-at, IsWriting-cross, IsWriting-length}
use Rattle.frac128.specs.Chain.{◌>>=◌}
use Rattle.frac128.specs.Checked.{checked_difference, checked_product, checked_quotient}
use Rattle.frac128.specs.Frac.{IsReduced}
use Rattle.frac128.specs.declared.number.TooWide.{TooWide}
use Rattle.frac128.proofs.FormulaLemmas.{IfOk-bind, IsValued, checked_difference-value, checked_product-value, checked_quotient-value}
use Rattle.value_scale.proofs.EachLemmas.{each_length, each_ok}
use Rattle.frac128.proofs.ReducedLemmas.{checked_product-reduced, reduced_are_fractions}
use Rattle.judgement_matrix.specs.Scale.{value_at}
use Rattle.judgement_matrix.specs.Values.{fraction_at}
use Rattle.value_scale.specs.Anchor.{IsAnchoredScale, AreAnchored, NeverRise, AreReferences, IsFlat, checked_factor, checked_point, checked_line, checked_anchor}

-- ---- one step each, over one denominator n

-- two numbers apart differ
pub span_not_zero : (top origin span : Fraction) → IsFraction span → SameFraction span (fraction_difference top origin) → ¬ SameFraction top origin
    → span.num ≢ pos 0
span_not_zero top origin span ps s apart is_zero =
    let product : (top.num *ℤ origin.den -ℤ origin.num *ℤ top.den) *ℤ span.den ≡ pos 0 = sym s ∙ ap (λ z. z *ℤ (top.den *ℤ origin.den)) is_zero
    ∙ ring2 (λ b d. con (pos 0) ⊗ (b ⊗ d) ≗ con (pos 0)) refl top.den origin.den in
    let none : top.num *ℤ origin.den -ℤ origin.num *ℤ top.den ≡ pos 0 = zero_of_mul (top.num *ℤ origin.den -ℤ origin.num *ℤ top.den) span.den ps product in
    apart (combine2 (λ x y. x ≗ y ⇐ con (pos 1) ✶ (x ⊖ y ≗ con (pos 0)) ∷ []) refl (top.num *ℤ origin.den) (origin.num *ℤ top.den) none)

-- a difference of two numbers over n
pub difference_over : (x z n : ℤ) (f g r : Fraction) → IsFraction f → IsFraction g → SameFraction (record { num = x; den = n }) f
    → SameFraction (record { num = z; den = n }) g
    → SameFraction r (fraction_difference f g) → SameFraction r (record { num = x -ℤ z; den = n })
difference_over x z n f g r pf pg is_f is_g s =
    cancel_eq (r.num *ℤ n) ((x -ℤ z) *ℤ r.den) (f.den *ℤ g.den) (mul_pos f.den g.den pf pg)
    (combine9 (λ x z n a b c d p q. p ⊗ n ⊗ (b ⊗ d) ≗ (x ⊖ z) ⊗ q ⊗ (b ⊗ d) ⇐ n ✶ (p ⊗ (b ⊗ d) ≗ (a ⊗ d ⊖ c ⊗ b) ⊗ q) ∷ neg (d ⊗ q) ✶ (x ⊗ b ≗ a ⊗ n)
    ∷ (b ⊗ q) ✶ (z ⊗ d ≗ c ⊗ n) ∷ []) refl
    x z n f.num f.den g.num g.den r.num r.den s is_f is_g)

-- 100 over it
factor_over : (n s : ℤ) (span r : Fraction) → IsFraction span → SameFraction span (record { num = s; den = n })
    → SameFraction r (fraction_quotient (fraction_of (pos 100)) span) → SameFraction r (record { num = pos 100 *ℤ n; den = s })
factor_over n s span r ps is_span is_r =
    cancel_eq (r.num *ℤ s) (pos 100 *ℤ n *ℤ r.den) span.den ps
    (combine6 (λ n s a b p q. p ⊗ s ⊗ b ≗ con (pos 100) ⊗ n ⊗ q ⊗ b ⇐ neg p ✶ (a ⊗ n ≗ s ⊗ b) ∷ n ✶ (p ⊗ (con (pos 1) ⊗ a) ≗ con (pos 100) ⊗ b ⊗ q) ∷ []) refl
    n s span.num span.den r.num r.den is_span is_r)

-- a point of the line
point_over : (x n s : ℤ) (above factor r : Fraction) → pos 0 <ℤ n → IsFraction above → IsFraction factor → SameFraction above (record { num = x; den = n })
    → SameFraction factor (record { num = pos 100 *ℤ n; den = s })
    → SameFraction r (fraction_product above factor) → SameFraction r (record { num = pos 100 *ℤ x; den = s })
point_over x n s above factor r pn pa pf is_above is_factor is_r =
    cancel_eq (r.num *ℤ s) (pos 100 *ℤ x *ℤ r.den) (above.den *ℤ factor.den *ℤ n) (mul_pos (above.den *ℤ factor.den) n (mul_pos above.den factor.den pa pf) pn)
    (combine9 (λ x n s a b c d p q. p ⊗ s ⊗ (b ⊗ d ⊗ n) ≗ con (pos 100) ⊗ x ⊗ q ⊗ (b ⊗ d ⊗ n) ⇐ (s ⊗ n) ✶ (p ⊗ (b ⊗ d) ≗ a ⊗ c ⊗ q)
    ∷ (c ⊗ q ⊗ s) ✶ (a ⊗ n ≗ x ⊗ b) ∷ (x ⊗ b ⊗ q) ✶ (c ⊗ s ≗ con (pos 100) ⊗ n ⊗ d) ∷ []) refl
    x n s above.num above.den factor.num factor.den r.num r.den is_r is_above is_factor)

-- ---- the formula

-- a positive denominator, and the number a over b
abbrev pub Is : ℤ → ℤ → Fraction → Type 0
Is a b = IsValued (record { num = a; den = b })

factor_value : (top origin : Fraction) (t z n : ℤ) → IsFraction top → IsFraction origin → SameFraction (record { num = t; den = n }) top
    → SameFraction (record { num = z; den = n }) origin → ¬ SameFraction top origin
    → IfOk (checked_factor top origin) (Is (pos 100 *ℤ n) (t -ℤ z))
factor_value top origin t z n pt pz is_t is_z apart =
    IfOk-bind (checked_difference top origin) (λ span. checked_quotient (fraction_of (pos 100)) span) (IsValued (fraction_difference top origin))
    (Is (pos 100 *ℤ n) (t -ℤ z)) (checked_difference-value top origin pt pz) (λ span hs.
    IfOk-weaker (checked_quotient (fraction_of (pos 100)) span) (IsValued (fraction_quotient (fraction_of (pos 100)) span)) (Is (pos 100 *ℤ n) (t -ℤ z))
    (λ r hr. (hr.0, factor_over n (t -ℤ z) span r hs.0 (difference_over t z n top origin span pt pz is_t is_z hs.1) hr.1))
    (checked_quotient-value (fraction_of (pos 100)) span (IsFraction-whole (pos 100)) (span_not_zero top origin span hs.0 hs.1 apart)))

point_value : (origin factor f : Fraction) (x z n s : ℤ) → pos 0 <ℤ n → IsFraction origin → Is (pos 100 *ℤ n) s factor → IsFraction f
    → SameFraction (record { num = x; den = n }) f → SameFraction (record { num = z; den = n }) origin
    → IfOk (checked_point origin factor f) (Is (pos 100 *ℤ (x -ℤ z)) s)
point_value origin factor f x z n s pn pz hf pf is_x is_z =
    IfOk-bind (checked_difference f origin) (λ above. checked_product above factor) (IsValued (fraction_difference f origin)) (Is (pos 100 *ℤ (x -ℤ z)) s)
    (checked_difference-value f origin pf pz) (λ above ha.
    IfOk-weaker (checked_product above factor) (IsValued (fraction_product above factor)) (Is (pos 100 *ℤ (x -ℤ z)) s)
    (λ r hr. (hr.0, point_over (x -ℤ z) n s above factor r pn ha.0 hf.0 (difference_over x z n f origin above pf pz is_x is_z ha.1) hf.1 hr.1))
    (checked_product-value above factor ha.0 hf.0))

-- the numbers of an anchored scale, over s
abbrev pub stretched : ℤ → List ℤ → List ℤ
stretched z w = map (λ x. pos 100 *ℤ (x -ℤ z)) w

-- the fractions are these over s
abbrev AreStretched : ℤ → List ℤ → ℤ → List Fraction → Type 0
AreStretched z w s vs = AreFractions vs × IsWriting vs (stretched z w) s

line_value : (origin factor : Fraction) (fs : List Fraction) (z n s : ℤ) (w : List ℤ) → pos 0 <ℤ s → IsFraction origin → Is (pos 100 *ℤ n) s factor
    → SameFraction (record { num = z; den = n }) origin → AreFractions fs → IsWriting fs w n
    → IfOk (checked_line origin factor fs) (AreStretched z w s)
line_value origin factor [] z n s [] ps pz hf is_z pf h = (All-nil IsFraction, record { den_pos = ps; same = tt })
line_value origin factor [] z n s (x ∷ w) ps pz hf is_z pf h = absurd h.same
line_value origin factor (f ∷ fs) z n s [] ps pz hf is_z pf h = absurd h.same
line_value origin factor (f ∷ fs) z n s (x ∷ w) ps pz hf is_z pf h =
    let head = All-head IsFraction f fs pf in
    IfOk-bind (checked_point origin factor f) (λ y. (checked_line origin factor fs) >>= (λ ys. Ok (y ∷ ys))) (Is (pos 100 *ℤ (x -ℤ z)) s)
    (AreStretched z (x ∷ w) s) (point_value origin factor f x z n s h.den_pos pz hf head h.same.0 is_z) (λ y hy.
    IfOk-bind (checked_line origin factor fs) (λ ys. Ok (y ∷ ys)) (AreStretched z w s) (AreStretched z (x ∷ w) s)
    (line_value origin factor fs z n s w ps pz hf is_z (All-tail IsFraction f fs pf) (record { den_pos = h.den_pos; same = h.same.1 })) (λ ys hs.
    (All-cons IsFraction y ys hy.0 hs.0, record { den_pos = ps; same = (sym hy.1, hs.1.same) })))

-- ---- the anchored scale

scaled : (z n s k : ℤ) (w v : List ℤ) → scale k (stretched z w) ≡ scale s v → scale (s *ℤ n) v
    ≡ scale k (map (λ x. pos 100 *ℤ n *ℤ x +ℤ neg_ℤ (pos 100 *ℤ z) *ℤ n) w)
scaled z n s k [] [] e = refl
scaled z n s k [] (y ∷ v) e = absurd (cons≢nil (sym e))
scaled z n s k (x ∷ w) [] e = absurd (cons≢nil e)
scaled z n s k (x ∷ w) (y ∷ v) e =
    ap₂ (λ y ys. y ∷ ys)
    (combine6 (λ x y z n s k. s ⊗ n ⊗ y ≗ k ⊗ (con (pos 100) ⊗ n ⊗ x ⊕ neg (con (pos 100) ⊗ z) ⊗ n) ⇐ neg n ✶ (k ⊗ (con (pos 100) ⊗ (x ⊖ z)) ≗ s ⊗ y) ∷ [])
    refl x y z n s k (head-eq_of_cons-eq e))
    (scaled z n s k w v (tail-eq_of_cons-eq e))

-- the number at a place
at_place : (z s k : ℤ) (w v : List ℤ) (i : ℕ) → i < length w → scale k (stretched z w) ≡ scale s v → k *ℤ (pos 100 *ℤ (get_or w i (pos 0) -ℤ z))
    ≡ s *ℤ get_or v i (pos 0)
at_place z s k [] v i l e = absurd (omega arith)
at_place z s k (x ∷ w) [] i l e = absurd (cons≢nil e)
at_place z s k (x ∷ w) (y ∷ v) zero l e = head-eq_of_cons-eq e
at_place z s k (x ∷ w) (y ∷ v) (suc i) l e = at_place z s k w v i (omega arith) (tail-eq_of_cons-eq e)

pub anchored_from : (w v : List ℤ) (n k : ℤ) (good neutral : ℕ) → AreReferences (length w) good neutral → pos 0 <ℤ n → pos 0 <ℤ k
    → pos 0 <ℤ (value_at w good -ℤ value_at w neutral)
    → scale k (stretched (value_at w neutral) w) ≡ scale (value_at w good -ℤ value_at w neutral) v → IsAnchoredScale w n good neutral v k
anchored_from w v n k good neutral refs pn pk ps e = record {
  den_pos = pk;
  line = record { slope = pos 100 *ℤ n; shift = neg_ℤ (pos 100 *ℤ z); base = s; rises = mul_pos (pos 100) n (lt_z_yes tt) pn; base_pos = ps };
  takes = scaled z n s k w v e;
  good_is = cancel_eq (value_at v good) (pos 100 *ℤ k) s ps
      (combine4 (λ t z k y. y ⊗ (t ⊖ z) ≗ con (pos 100) ⊗ k ⊗ (t ⊖ z) ⇐ neg (con (pos 1)) ✶ (k ⊗ (con (pos 100) ⊗ (t ⊖ z)) ≗ (t ⊖ z) ⊗ y) ∷ []) refl
      (value_at w good) z k (value_at v good)
      (at_place z s k w v (good - 1) (omega arith) e));
  neutral_is = zero_of_mul (value_at v neutral) s ps
      (combine4 (λ t z k y. y ⊗ (t ⊖ z) ≗ con (pos 0) ⇐ neg (con (pos 1)) ✶ (k ⊗ (con (pos 100) ⊗ (z ⊖ z)) ≗ (t ⊖ z) ⊗ y) ∷ []) refl (value_at w good) z k
      (value_at v neutral)
      (at_place z s k w v (neutral - 1) (omega arith) e));
}
  where
    z : ℤ
    z = value_at w neutral

    s : ℤ
    s = value_at w good -ℤ value_at w neutral

-- the better reference is above the other
above : (f g : Fraction) (t z n : ℤ) → pos 0 <ℤ n → IsFraction f → IsFraction g → SameFraction (record { num = t; den = n }) f
    → SameFraction (record { num = z; den = n }) g → FractionAtMost g f → ¬ SameFraction f g → pos 0 <ℤ (t -ℤ z)
above f g t z n pn pf pg is_f is_g most apart =
    let less : (g.num *ℤ f.den) <ℤ (f.num *ℤ g.den) = by_lt_z (g.num *ℤ f.den) (f.num *ℤ g.den) (λ h. h)
    (λ h. absurd (apart (le_antisymm (f.num *ℤ g.den) (g.num *ℤ f.den) h most))) in
    let apart_by : z <ℤ t = cancel_lt z t (f.den *ℤ g.den) (mul_pos f.den g.den pf pg)
    (combine7 (λ t z n a b c d. z ⊗ (b ⊗ d) ≺ t ⊗ (b ⊗ d) ⇐ n ✶ (c ⊗ b ≺ a ⊗ d) ∷ b ✶ (z ⊗ d ≗ c ⊗ n) ∷ neg d ✶ (t ⊗ b ≗ a ⊗ n) ∷ []) refl t z n f.num
    f.den g.num g.den pn less is_g is_f) in
    omega (arith, lin, apart_by)

-- the formula gives the anchored scale
pub anchored_is : (fs : List Fraction) (good neutral : ℕ) → AreFractions fs → AreReferences (length fs) good neutral → NeverRise fs → ¬ IsFlat fs good neutral
    → IfOk (checked_anchor fs good neutral) (AreAnchored fs good neutral)
anchored_is fs good neutral pf refs falls apart = for_all (checked_anchor fs good neutral) one
  where
    top : Fraction
    top = fraction_at fs good

    origin : Fraction
    origin = fraction_at fs neutral

    for_all : (r : Result (List Fraction) TooWide) → ((w : List ℤ) (n : ℤ) → IsWriting fs w n
        → IfOk r (λ vs. (v : List ℤ) (k : ℤ) → IsWriting vs v k → IsAnchoredScale w n good neutral v k)) → IfOk r (AreAnchored fs good neutral)
    for_all (Ok vs) h = λ w n v k hw hv. h w n hw v k hv
    for_all (Err e) h = tt

    one : (w : List ℤ) (n : ℤ) → IsWriting fs w n → IfOk (checked_anchor fs good neutral)
        (λ vs. (v : List ℤ) (k : ℤ) → IsWriting vs v k → IsAnchoredScale w n good neutral v k)
    one w n h =
        let t = value_at w good in
        let z = value_at w neutral in
        let e = IsWriting-length fs w n h in
        let p_top : IsFraction top = All-get_or IsFraction fs (good - 1) (fraction_of (pos 0)) (omega arith) pf in
        let p_zero : IsFraction origin = All-get_or IsFraction fs (neutral - 1) (fraction_of (pos 0)) (omega arith) pf in
        let is_t : SameFraction (record { num = t; den = n }) top = IsWriting-at fs w n (good - 1) (pos 0) (fraction_of (pos 0)) (omega arith) h in
        let is_z : SameFraction (record { num = z; den = n }) origin = IsWriting-at fs w n (neutral - 1) (pos 0) (fraction_of (pos 0)) (omega arith) h in
        let ps = above top origin t z n h.den_pos p_top p_zero is_t is_z (falls good neutral refs) apart in
        IfOk-bind (checked_factor top origin) (λ factor. checked_line origin factor fs) (Is (pos 100 *ℤ n) (t -ℤ z))
        (λ vs. (v : List ℤ) (k : ℤ) → IsWriting vs v k → IsAnchoredScale w n good neutral v k)
        (factor_value top origin t z n p_top p_zero is_t is_z apart) (λ factor hf.
        IfOk-weaker (checked_line origin factor fs) (AreStretched z w (t -ℤ z))
        (λ vs. (v : List ℤ) (k : ℤ) → IsWriting vs v k → IsAnchoredScale w n good neutral v k)
        (λ vs hs v k hv. anchored_from w v n k good neutral (rw e refs) h.den_pos hv.den_pos ps (IsWriting-cross vs (stretched z w) (t -ℤ z) v k hs.0 hs.1 hv))
        (line_value origin factor fs z n (t -ℤ z) w ps p_zero hf is_z pf h))

-- there are as many values
pub anchored_length : (fs : List Fraction) (good neutral : ℕ) → IfOk (checked_anchor fs good neutral) (λ vs. length vs ≡ length fs)
anchored_length fs good neutral = with_factor (checked_factor (fraction_at fs good) (fraction_at fs neutral))
  where
    with_factor : (r : Result Fraction TooWide) → IfOk (r >>= (λ factor. checked_line (fraction_at fs neutral) factor fs)) (λ vs. length vs ≡ length fs)
    with_factor (Ok factor) = each_length (checked_point (fraction_at fs neutral) factor) fs
    with_factor (Err e) = tt

-- they are in lowest terms
pub anchored_reduced : (fs : List Fraction) (good neutral : ℕ) → AreFractions fs → AreReferences (length fs) good neutral → ¬ IsFlat fs good neutral
    → IfOk (checked_anchor fs good neutral) (All IsReduced)
anchored_reduced fs good neutral pf refs apart =
    IfOk-bind (checked_factor top origin) (λ factor. checked_line origin factor fs) IsFraction (All IsReduced) factor_is (λ factor p_factor.
    each_ok (checked_point origin factor) IsFraction IsReduced (point_is factor p_factor) fs pf)
  where
    top : Fraction
    top = fraction_at fs good

    origin : Fraction
    origin = fraction_at fs neutral

    p_top : IsFraction top
    p_top = All-get_or IsFraction fs (good - 1) (fraction_of (pos 0)) (omega arith) pf

    p_zero : IsFraction origin
    p_zero = All-get_or IsFraction fs (neutral - 1) (fraction_of (pos 0)) (omega arith) pf

    factor_is : IfOk (checked_factor top origin) IsFraction
    factor_is =
        let hundred = fraction_of (pos 100) in
        IfOk-bind (checked_difference top origin) (λ span. checked_quotient hundred span) (IsValued (fraction_difference top origin)) IsFraction
        (checked_difference-value top origin p_top p_zero) (λ span hs.
        IfOk-weaker (checked_quotient hundred span) (IsValued (fraction_quotient hundred span)) IsFraction (λ r hr. hr.0)
        (checked_quotient-value hundred span (IsFraction-whole (pos 100)) (span_not_zero top origin span hs.0 hs.1 apart)))

    point_is : (factor : Fraction) → IsFraction factor → (f : Fraction) → IsFraction f → IfOk (checked_point origin factor f) IsReduced
    point_is factor p_factor f p_f =
        IfOk-bind (checked_difference f origin) (λ above. checked_product above factor) (IsValued (fraction_difference f origin)) IsReduced
        (checked_difference-value f origin p_f p_zero) (λ above ha. checked_product-reduced above factor ha.0 p_factor)

-- ---- what the formula gives

pub checked_anchor-means : (fs : List Fraction) (good neutral : ℕ) (anchored : List Fraction) → AreFractions fs → AreReferences (length fs) good neutral
    → NeverRise fs → ¬ IsFlat fs good neutral → checked_anchor fs good neutral ≡ Ok anchored → AreAnchored fs good neutral anchored
checked_anchor-means fs good neutral anchored pf refs falls apart is =
    IfOk-at_ok (AreAnchored fs good neutral) is (anchored_is fs good neutral pf refs falls apart)

pub checked_anchor-length : (fs : List Fraction) (good neutral : ℕ) (anchored : List Fraction) → checked_anchor fs good neutral ≡ Ok anchored
    → length anchored ≡ length fs
checked_anchor-length fs good neutral anchored is = IfOk-at_ok (λ vs. length vs ≡ length fs) is (anchored_length fs good neutral)

pub checked_anchor-reduced : (fs : List Fraction) (good neutral : ℕ) (anchored : List Fraction) → AreFractions fs → AreReferences (length fs) good neutral
    → ¬ IsFlat fs good neutral → checked_anchor fs good neutral ≡ Ok anchored → All IsReduced anchored
checked_anchor-reduced fs good neutral anchored pf refs apart is = IfOk-at_ok (All IsReduced) is (anchored_reduced fs good neutral pf refs apart)

pub checked_anchor-fractions : (fs : List Fraction) (good neutral : ℕ) (anchored : List Fraction) → AreFractions fs → AreReferences (length fs) good neutral
    → ¬ IsFlat fs good neutral → checked_anchor fs good neutral ≡ Ok anchored → AreFractions anchored
checked_anchor-fractions fs good neutral anchored pf refs apart is =
    reduced_are_fractions anchored (checked_anchor-reduced fs good neutral anchored pf refs apart is)
