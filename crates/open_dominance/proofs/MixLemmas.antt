-- A mixture with a share above 0 of an open point and any share of a point of the closure is open.
use Rattle.std.proofs.Common.{◌≡◌, ℕ, ◌-◌, ℤ, pos, ◌+ℤ◌, ◌-ℤ◌, ◌*ℤ◌, ◌≤ℤ◌, ◌<ℤ◌, List, [], ◌∷◌, ◌++◌, length, get_or, refl, sym, ap, ap₂, subst, ◌∙◌, arith}
use lib.IntN.{*ℤ-zero}
use lib.ListN.{length-append}
use Rattle.std.proofs.lemmas.List.Elements.{All-from_get_or}
use Rattle.integers.specs.Vector.{add, scale, int_sum, AreNonNegative}
use Rattle.integers.proofs.Laws.{lin}
use Rattle.integers.proofs.Order.{mul_nonneg, mul_pos, le_of_lt}
use Rattle.integers.proofs.Ring.{con, ◌⊕◌, ◌⊖◌, ◌⊗◌, ◌≗◌, ◌≼◌, ◌✶◌, ◌⇐◌, ring2, ring4, ring6, combine7}
use Rattle.integers.proofs.VectorLaws.{get_or-scale, get_or-add, length-scale, length-add, scale-add, scale-scale, int_sum-add, int_sum-scale}
use Rattle.integers.proofs.VectorOrder.{get_or_nonneg}
use Rattle.judgement_matrix.specs.Matrix.{Judgements}
use Rattle.judgement_matrix.specs.Scale.{value_at, difference, IsScale, IsMetInUnit}
use Rattle.judgement_matrix.proofs.MixLemmas.{IsMetInUnit-scale, IsMetInUnit-add}
use Rattle.open_dominance.specs.Open.{mix, References, IsMetOpenly, IsMetInClosure, IsWithinReach, IsOpenScale, IsClosureScale, AreWeights, IsOpenWeighting, IsClosureWeighting}

-- ---- the numbers of a mixture

pub value_at-mix : (a : ℤ) (v : List ℤ) (b : ℤ) (w : List ℤ) (p : ℕ) → value_at (mix a v b w) p ≡ a *ℤ value_at v p +ℤ b *ℤ value_at w p
value_at-mix a v b w p = get_or-add (scale a v) (scale b w) (p - 1) ∙ ap₂ (λ x y. x +ℤ y) (get_or-scale a v (p - 1)) (get_or-scale b w (p - 1))

pub difference-mix : (a : ℤ) (v : List ℤ) (b : ℤ) (w : List ℤ) (p q : ℕ) → difference (mix a v b w) p q ≡ a *ℤ difference v p q +ℤ b *ℤ difference w p q
difference-mix a v b w p q =
    ap₂ (λ x y. x -ℤ y) (value_at-mix a v b w p) (value_at-mix a v b w q)
    ∙ ring6 (λ a b v x w y. (a ⊗ v ⊕ b ⊗ w) ⊖ (a ⊗ x ⊕ b ⊗ y) ≗ a ⊗ (v ⊖ x) ⊕ b ⊗ (w ⊖ y)) refl a b (value_at v p) (value_at v q) (value_at w p) (value_at w q)

pub length-mix : (a : ℤ) (v : List ℤ) (b : ℤ) (w : List ℤ) (n : ℕ) → length v ≡ n → length w ≡ n → length (mix a v b w) ≡ n
length-mix a v b w n e f = omega (arith, length-add (scale a v) (scale b w), length-scale a v, length-scale b w, e, f)

-- ---- the judgements

-- a mixture in another writing
scale-mix : (f a : ℤ) (v : List ℤ) (b : ℤ) (w : List ℤ) → add (scale a (scale f v)) (scale (f *ℤ b) w) ≡ scale f (mix a v b w)
scale-mix f a v b w = sym
    (scale-add f (scale a v) (scale b w)
    ∙ ap₂ (λ x y. add x y) (scale-scale f a v ∙ ap (λ c. scale c v) (ring2 (λ f a. f ⊗ a ≗ a ⊗ f) refl f a) ∙ sym (scale-scale a f v)) (scale-scale f b w))

pub IsMetOpenly-mix : (m : Judgements) (a : ℤ) (v : List ℤ) (b : ℤ) (w : List ℤ) → pos 0 <ℤ a → pos 0 ≤ℤ b → IsMetOpenly m v → IsMetInClosure m w
    → IsMetOpenly m (mix a v b w)
IsMetOpenly-mix m a v b w pa pb h k =
    let f = h.factor in
    let nonneg : pos 0 ≤ℤ (f *ℤ b) = mul_nonneg f b (le_of_lt (pos 0) f h.factor_pos) pb in
    let above = mul_pos a h.unit pa h.unit_pos in
    record {
      factor = f;
      unit = a *ℤ h.unit +ℤ (f *ℤ b) *ℤ pos 0;
      factor_pos = h.factor_pos;
      unit_pos = omega (arith, lin, above, *ℤ-zero (f *ℤ b));
      meets = subst (λ z. IsMetInUnit m (a *ℤ h.unit +ℤ (f *ℤ b) *ℤ pos 0) z) (scale-mix f a v b w)
          (IsMetInUnit-add m (a *ℤ h.unit) ((f *ℤ b) *ℤ pos 0) (scale a (scale f v)) (scale (f *ℤ b) w)
          (IsMetInUnit-scale m a h.unit (scale f v) (le_of_lt (pos 0) a pa) h.meets) (IsMetInUnit-scale m (f *ℤ b) (pos 0) w nonneg k));
    }

-- ---- scales

mixed_den : (a b n k : ℤ) → pos 0 <ℤ a → pos 0 ≤ℤ b → pos 0 <ℤ n → pos 0 <ℤ k → pos 0 <ℤ (a *ℤ n +ℤ b *ℤ k)
mixed_den a b n k pa pb pn pk = let l = mul_pos a n pa pn in let r = mul_nonneg b k pb (le_of_lt (pos 0) k pk) in omega (arith, lin, l, r)

mixed_reach : (a b n k r x y : ℤ) → pos 0 ≤ℤ a → x ≤ℤ (r *ℤ n) → pos 0 ≤ℤ b → y ≤ℤ (r *ℤ k) → (a *ℤ x +ℤ b *ℤ y) ≤ℤ (r *ℤ (a *ℤ n +ℤ b *ℤ k))
mixed_reach = combine7 (λ a b n k r x y. a ⊗ x ⊕ b ⊗ y ≼ r ⊗ (a ⊗ n ⊕ b ⊗ k) ⇐ a ✶ (x ≼ r ⊗ n) ∷ b ✶ (y ≼ r ⊗ k) ∷ []) refl

pub IsWithinReach-mix : (m : Judgements) (refs : References) (a : ℤ) (v : List ℤ) (n : ℤ) (b : ℤ) (w : List ℤ) (k : ℤ) → pos 0 <ℤ a → pos 0 ≤ℤ b
    → IsWithinReach m refs v n → IsWithinReach m refs w k → IsWithinReach m refs (mix a v b w) (a *ℤ n +ℤ b *ℤ k)
IsWithinReach-mix m refs a v n b w k pa pb g h = record {
  den_pos = mixed_den a b n k pa pb g.den_pos h.den_pos;
  each = length-mix a v b w m.size g.each h.each;
  good_is = value_at-mix a v b w refs.good ∙ ap₂ (λ x y. a *ℤ x +ℤ b *ℤ y) g.good_is h.good_is
      ∙ ring4 (λ a b n k. a ⊗ (con (pos 100) ⊗ n) ⊕ b ⊗ (con (pos 100) ⊗ k) ≗ con (pos 100) ⊗ (a ⊗ n ⊕ b ⊗ k)) refl a b n k;
  neutral_is = value_at-mix a v b w refs.neutral ∙ ap₂ (λ x y. a *ℤ x +ℤ b *ℤ y) g.neutral_is h.neutral_is
      ∙ ring2 (λ a b. a ⊗ con (pos 0) ⊕ b ⊗ con (pos 0) ≗ con (pos 0)) refl a b;
  reached = subst (λ z. z ≤ℤ (pos refs.reach *ℤ (a *ℤ n +ℤ b *ℤ k))) (sym (difference-mix a v b w 1 m.size))
      (mixed_reach a b n k (pos refs.reach) (difference v 1 m.size) (difference w 1 m.size) (le_of_lt (pos 0) a pa) g.reached pb h.reached);
}

pub IsOpenScale-mix : (m : Judgements) (refs : References) (a : ℤ) (v : List ℤ) (n : ℤ) (b : ℤ) (w : List ℤ) (k : ℤ) → pos 0 <ℤ a → pos 0 ≤ℤ b
    → IsOpenScale m refs v n → IsClosureScale m refs w k → IsOpenScale m refs (mix a v b w) (a *ℤ n +ℤ b *ℤ k)
IsOpenScale-mix m refs a v n b w k pa pb g h = record {
  within = IsWithinReach-mix m refs a v n b w k pa pb g.within h.within;
  opened = IsMetOpenly-mix m a v b w pa pb g.opened h.closed;
}

-- ---- weightings

pub mix-last : (a : ℤ) (v : List ℤ) (b : ℤ) (w : List ℤ) → length v ≡ length w → mix a (v ++ pos 0 ∷ []) b (w ++ pos 0 ∷ []) ≡ mix a v b w ++ pos 0 ∷ []
mix-last a [] b [] e = ap (λ z. z ∷ []) (ring2 (λ a b. a ⊗ con (pos 0) ⊕ b ⊗ con (pos 0) ≗ con (pos 0)) refl a b)
mix-last a [] b (y ∷ w) e = absurd (omega (arith, e))
mix-last a (x ∷ v) b [] e = absurd (omega (arith, e))
mix-last a (x ∷ v) b (y ∷ w) e = ap (λ zs. (a *ℤ x +ℤ b *ℤ y) ∷ zs) (mix-last a v b w (omega (arith, e)))

pub AreNonNegative-mix : (a : ℤ) (v : List ℤ) (b : ℤ) (w : List ℤ) → pos 0 ≤ℤ a → pos 0 ≤ℤ b → AreNonNegative v → AreNonNegative w → AreNonNegative (mix a v b w)
AreNonNegative-mix a v b w pa pb g h =
    All-from_get_or (λ x. pos 0 ≤ℤ x) (mix a v b w) (pos 0) (λ i l.
    let first = mul_nonneg a (get_or v i (pos 0)) pa (get_or_nonneg v g i) in
    let second = mul_nonneg b (get_or w i (pos 0)) pb (get_or_nonneg w h i) in
    omega (arith, lin, first, second, get_or-add (scale a v) (scale b w) i, get_or-scale a v i, get_or-scale b w i))

pub int_sum-mix : (a : ℤ) (v : List ℤ) (b : ℤ) (w : List ℤ) → int_sum (mix a v b w) ≡ a *ℤ int_sum v +ℤ b *ℤ int_sum w
int_sum-mix a v b w = int_sum-add (scale a v) (scale b w) ∙ ap₂ (λ x y. x +ℤ y) (int_sum-scale a v) (int_sum-scale b w)

pub one_length : (m : Judgements) (k : List ℤ) (d : ℤ) (j : List ℤ) (e : ℤ) → AreWeights m k d → AreWeights m j e → length k ≡ length j
one_length m k d j e g h = omega (arith, length-append k (pos 0 ∷ []), length-append j (pos 0 ∷ []), g.scale.each, h.scale.each)

pub AreWeights-mix : (m : Judgements) (a : ℤ) (k : List ℤ) (d : ℤ) (b : ℤ) (j : List ℤ) (e : ℤ) → pos 0 <ℤ a → pos 0 ≤ℤ b → AreWeights m k d → AreWeights m j e
    → AreWeights m (mix a k b j) (a *ℤ d +ℤ b *ℤ e)
AreWeights-mix m a k d b j e pa pb g h = record {
  scale = subst (λ z. IsScale m z (a *ℤ d +ℤ b *ℤ e)) (mix-last a k b j (one_length m k d j e g h)) (record {
    den_pos = mixed_den a b d e pa pb g.scale.den_pos h.scale.den_pos;
    each = length-mix a (k ++ pos 0 ∷ []) b (j ++ pos 0 ∷ []) m.size g.scale.each h.scale.each;
    last = value_at-mix a (k ++ pos 0 ∷ []) b (j ++ pos 0 ∷ []) m.size ∙ ap₂ (λ x y. a *ℤ x +ℤ b *ℤ y) g.scale.last h.scale.last
        ∙ ring2 (λ a b. a ⊗ con (pos 0) ⊕ b ⊗ con (pos 0) ≗ con (pos 0)) refl a b;
  });
  nonneg = AreNonNegative-mix a k b j (le_of_lt (pos 0) a pa) pb g.nonneg h.nonneg;
  sum = int_sum-mix a k b j ∙ ap₂ (λ x y. a *ℤ x +ℤ b *ℤ y) g.sum h.sum;
}

pub IsOpenWeighting-mix : (m : Judgements) (a : ℤ) (k : List ℤ) (d : ℤ) (b : ℤ) (j : List ℤ) (e : ℤ) → pos 0 <ℤ a → pos 0 ≤ℤ b
    → IsOpenWeighting m k d → IsClosureWeighting m j e → IsOpenWeighting m (mix a k b j) (a *ℤ d +ℤ b *ℤ e)
IsOpenWeighting-mix m a k d b j e pa pb g h = record {
  weights = AreWeights-mix m a k d b j e pa pb g.weights h.weights;
  opened = subst (λ z. IsMetOpenly m z) (mix-last a k b j (one_length m k d j e g.weights h.weights))
      (IsMetOpenly-mix m a (k ++ pos 0 ∷ []) b (j ++ pos 0 ∷ []) pa pb g.opened h.closed);
}
