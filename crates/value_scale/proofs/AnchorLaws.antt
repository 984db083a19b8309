-- What an anchored scale is at each element.
use lib.IntN.{*ℤ_comm}
use Rattle.std.specs.Int.Signed.{lt_z_yes}
use mathlib.Core.List.{cons≢nil, head-eq_of_cons-eq, tail-eq_of_cons-eq}
use Rattle.std.proofs.Common.{◌≡◌, ◌≢◌, ◌↔◌, ℕ, zero, suc, ◌+◌, ◌-◌, ◌<◌, ◌≤◌, ℤ, pos, ◌+ℤ◌, ◌-ℤ◌, ◌*ℤ◌, ◌≤ℤ◌, ◌<ℤ◌, List, [], ◌∷◌, map, length, get_or, refl, sym, ap, subst, ◌∙◌, ext_get_or, arith}
use Rattle.std.proofs.lemmas.Int.{by_lt_z}
use Rattle.std.proofs.lemmas.List.{length-map}
use Rattle.integers.proofs.Laws.{lin}
use Rattle.integers.specs.Fraction.{over, SameFractions}
use Rattle.integers.specs.Vector.{scale}
use Rattle.integers.proofs.Order.{mul_pos, cancel_eq, cancel_le, pos_of_mul, le_of_lt, le_antisymm}
use Rattle.integers.proofs.Ring.{con, neg, ◌⊕◌, ◌⊖◌, ◌⊗◌, ◌≗◌, ◌≼◌, ◌✶◌, ◌⇐◌, combine7, combine8, combine9}
use Rattle.integers.proofs.Fractions.{SameFractions-over}
use Rattle.integers.proofs.VectorLaws.{length-scale, get_or-scale}
use Rattle.judgement_matrix.specs.Matrix.{IsPair}
use Rattle.judgement_matrix.specs.Scale.{value_at}
use Rattle.value_scale.specs.Anchor.{IsAnchoredScale, AreReferences}
use Rattle.value_scale.proofs.AnchorLemmas.{stretched, anchored_from}

-- as many values
pub anchored_each : (w : List ℤ) (n : ℤ) (good neutral : ℕ) (v : List ℤ) (k : ℤ) → IsAnchoredScale w n good neutral v k → length v ≡ length w
anchored_each w n good neutral v k h =
    let f : ℤ → ℤ = λ x. h.line.slope *ℤ x +ℤ h.line.shift *ℤ n in
    sym (length-scale (h.line.base *ℤ n) v) ∙ ap length h.takes ∙ length-scale k (map f w) ∙ length-map w f

-- the line at a place
line_at : (c k s t : ℤ) (w v : List ℤ) → scale c v ≡ scale k (map (λ x. s *ℤ x +ℤ t) w) → (i : ℕ) → i < length w → c *ℤ get_or v i (pos 0)
    ≡ k *ℤ (s *ℤ get_or w i (pos 0) +ℤ t)
line_at c k s t [] v e i l = absurd (omega arith)
line_at c k s t (x ∷ w) [] e i l = absurd (cons≢nil (sym e))
line_at c k s t (x ∷ w) (y ∷ v) e zero l = head-eq_of_cons-eq e
line_at c k s t (x ∷ w) (y ∷ v) e (suc i) l = line_at c k s t w v (tail-eq_of_cons-eq e) i (omega arith)

-- the line at an element
taken : (w : List ℤ) (n : ℤ) (good neutral : ℕ) (v : List ℤ) (k : ℤ) (h : IsAnchoredScale w n good neutral v k) (p : ℕ) → 1 ≤ p → p ≤ length w
    → h.line.base *ℤ n *ℤ value_at v p ≡ k *ℤ (h.line.slope *ℤ value_at w p +ℤ h.line.shift *ℤ n)
taken w n good neutral v k h p low within = line_at (h.line.base *ℤ n) k h.line.slope (h.line.shift *ℤ n) w v h.takes (p - 1) (omega arith)

-- values that don't rise are sent to values that don't
pub anchored_fall : (w : List ℤ) (n : ℤ) (good neutral : ℕ) (v : List ℤ) (k : ℤ) (p q : ℕ) → pos 0 <ℤ n → IsAnchoredScale w n good neutral v k
    → IsPair (length w) p q
    → value_at w q ≤ℤ value_at w p → value_at v q ≤ℤ value_at v p
anchored_fall w n good neutral v k p q pn h pair below =
    let line = h.line in
    let c = line.base *ℤ n in
    let pc : pos 0 <ℤ c = mul_pos line.base n line.base_pos pn in
    let at_p = taken w n good neutral v k h p (omega arith) (omega arith) in
    let at_q = taken w n good neutral v k h q (omega arith) (omega arith) in
    let factor : pos 0 ≤ℤ (k *ℤ line.slope) = le_of_lt (pos 0) (k *ℤ line.slope) (mul_pos k line.slope h.den_pos line.rises) in
    cancel_le (value_at v q) (value_at v p) c pc
    (combine8 (λ a b x y c k s t. y ⊗ c ≼ x ⊗ c ⇐ (k ⊗ s) ✶ (b ≼ a) ∷ con (pos 1) ✶ (c ⊗ y ≗ k ⊗ (s ⊗ b ⊕ t)) ∷ neg (con (pos 1)) ✶ (c ⊗ x ≗ k ⊗ (s ⊗ a ⊕ t))
    ∷ []) refl
    (value_at w p) (value_at w q) (value_at v p) (value_at v q) c k line.slope (line.shift *ℤ n) factor below at_q at_p)

-- two references of an anchored scale, and how steep its line is
steep : (w : List ℤ) (n : ℤ) (good neutral : ℕ) (v : List ℤ) (k : ℤ) → AreReferences (length w) good neutral → (h : IsAnchoredScale w n good neutral v k)
    → h.line.slope *ℤ (value_at w good -ℤ value_at w neutral) ≡ pos 100 *ℤ (h.line.base *ℤ n)
steep w n good neutral v k refs h =
    let line = h.line in
    let c = line.base *ℤ n in
    let at_good = taken w n good neutral v k h good (omega arith) (omega arith) in
    let at_neutral = taken w n good neutral v k h neutral (omega arith) (omega arith) in
    cancel_eq (line.slope *ℤ (value_at w good -ℤ value_at w neutral)) (pos 100 *ℤ c) k h.den_pos
    (combine8 (λ a b x y c k s t. s ⊗ (a ⊖ b) ⊗ k ≗ con (pos 100) ⊗ c ⊗ k ⇐ neg (con (pos 1)) ✶ (c ⊗ x ≗ k ⊗ (s ⊗ a ⊕ t))
    ∷ con (pos 1) ✶ (c ⊗ y ≗ k ⊗ (s ⊗ b ⊕ t)) ∷ c ✶ (x ≗ con (pos 100) ⊗ k) ∷ neg c ✶ (y ≗ con (pos 0)) ∷ []) refl
    (value_at w good) (value_at w neutral) (value_at v good) (value_at v neutral) c k line.slope (line.shift *ℤ n) at_good at_neutral h.good_is h.neutral_is)

-- the references differ
apart : (w : List ℤ) (n : ℤ) (good neutral : ℕ) (v : List ℤ) (k : ℤ) → pos 0 <ℤ n → AreReferences (length w) good neutral
    → IsAnchoredScale w n good neutral v k → pos 0 <ℤ (value_at w good -ℤ value_at w neutral)
apart w n good neutral v k pn refs h =
    let d = value_at w good -ℤ value_at w neutral in
    let c = h.line.base *ℤ n in
    let big : pos 0 <ℤ (pos 100 *ℤ c) = mul_pos (pos 100) c (lt_z_yes tt) (mul_pos h.line.base n h.line.base_pos pn) in
    pos_of_mul d h.line.slope h.line.rises (subst (λ z. pos 0 <ℤ z) (sym (steep w n good neutral v k refs h) ∙ *ℤ_comm h.line.slope d) big)

-- the value of each element is 100 times its part of the way from neutral to good
part : (w : List ℤ) (n : ℤ) (good neutral : ℕ) (v : List ℤ) (k : ℤ) → pos 0 <ℤ n → AreReferences (length w) good neutral
    → IsAnchoredScale w n good neutral v k → (p : ℕ) → 1 ≤ p → p ≤ length w
    → value_at v p *ℤ (value_at w good -ℤ value_at w neutral) ≡ pos 100 *ℤ k *ℤ (value_at w p -ℤ value_at w neutral)
part w n good neutral v k pn refs h p low within =
    let line = h.line in
    let c = line.base *ℤ n in
    let d = value_at w good -ℤ value_at w neutral in
    let at_p = taken w n good neutral v k h p low within in
    let at_neutral = taken w n good neutral v k h neutral (omega arith) (omega arith) in
    cancel_eq (value_at v p *ℤ d) (pos 100 *ℤ k *ℤ (value_at w p -ℤ value_at w neutral)) c (mul_pos line.base n line.base_pos pn)
    (combine9 (λ a b x y c k s t d. x ⊗ d ⊗ c ≗ con (pos 100) ⊗ k ⊗ (a ⊖ b) ⊗ c ⇐ d ✶ (c ⊗ x ≗ k ⊗ (s ⊗ a ⊕ t)) ∷ neg d ✶ (c ⊗ y ≗ k ⊗ (s ⊗ b ⊕ t))
    ∷ (c ⊗ d) ✶ (y ≗ con (pos 0)) ∷ (k ⊗ (a ⊖ b)) ✶ (s ⊗ d ≗ con (pos 100) ⊗ c) ∷ []) refl
    (value_at w p) (value_at w neutral) (value_at v p) (value_at v neutral) c k line.slope (line.shift *ℤ n) d at_p at_neutral h.neutral_is
    (steep w n good neutral v k refs h))

-- there is one anchored scale
pub anchored_one : (w : List ℤ) (n : ℤ) (good neutral : ℕ) (v x : List ℤ) (k l : ℤ) → pos 0 <ℤ n → AreReferences (length w) good neutral
    → IsAnchoredScale w n good neutral v k → IsAnchoredScale w n good neutral x l → SameFractions (over v k) (over x l)
anchored_one w n good neutral v x k l pn refs h g = (SameFractions-over v x k l).1
    (ext_get_or (pos 0) (scale l v) (scale k x) (length-scale l v ∙ anchored_each w n good neutral v k h ∙ sym (anchored_each w n good neutral x l g)
    ∙ sym (length-scale k x)) (λ i under.
    get_or-scale l v i ∙ same i (omega (arith, length-scale l v, anchored_each w n good neutral v k h)) ∙ sym (get_or-scale k x i)))
  where
    d : ℤ
    d = value_at w good -ℤ value_at w neutral

    same : (i : ℕ) → i < length w → l *ℤ get_or v i (pos 0) ≡ k *ℤ get_or x i (pos 0)
    same i under =
        let e : i + 1 - 1 ≡ i = omega arith in
        let in_v = rw e at (part w n good neutral v k pn refs h (i + 1) (omega arith) (omega arith)) in
        let in_x = rw e at (part w n good neutral x l pn refs g (i + 1) (omega arith) (omega arith)) in
        cancel_eq (l *ℤ get_or v i (pos 0)) (k *ℤ get_or x i (pos 0)) d (apart w n good neutral v k pn refs h)
        (combine7 (λ a b y z k l d. l ⊗ y ⊗ d ≗ k ⊗ z ⊗ d ⇐ l ✶ (y ⊗ d ≗ con (pos 100) ⊗ k ⊗ (a ⊖ b)) ∷ neg k ✶ (z ⊗ d ≗ con (pos 100) ⊗ l ⊗ (a ⊖ b)) ∷ []) refl
        (get_or w i (pos 0)) (value_at w neutral) (get_or v i (pos 0)) (get_or x i (pos 0)) k l d in_v in_x)

-- there is one exactly where the references have two values
pub anchored_exists : (w : List ℤ) (n : ℤ) (good neutral : ℕ) → pos 0 <ℤ n → AreReferences (length w) good neutral → value_at w neutral ≤ℤ value_at w good
    → ((v : List ℤ) × (k : ℤ) × IsAnchoredScale w n good neutral v k) ↔ (value_at w good ≢ value_at w neutral)
anchored_exists w n good neutral pn refs below = (there, back)
  where
    t : ℤ
    t = value_at w good

    z : ℤ
    z = value_at w neutral

    there : ((v : List ℤ) × (k : ℤ) × IsAnchoredScale w n good neutral v k) → t ≢ z
    there some is = let above = apart w n good neutral some.0 some.1 pn refs some.2 in absurd (omega (arith, lin, above, is))

    back : t ≢ z → ((v : List ℤ) × (k : ℤ) × IsAnchoredScale w n good neutral v k)
    back differ =
        let over_z : z <ℤ t = by_lt_z z t (λ h. h) (λ h. absurd (differ (le_antisymm t z h below))) in
        let above : pos 0 <ℤ (t -ℤ z) = omega (arith, lin, over_z) in
        (stretched z w, t -ℤ z, anchored_from w (stretched z w) n (t -ℤ z) good neutral refs pn above above refl)
