-- Multiples and sums of scales: each meets the judgements in the unit that is made the same way.
use Rattle.std.proofs.Common.{◌≡◌, ℕ, ◌-◌, ℤ, pos, ◌+ℤ◌, ◌-ℤ◌, ◌*ℤ◌, ◌≤ℤ◌, List, [], ◌∷◌, refl, sym, ap₂, subst, ◌∙◌, arith}
use Rattle.integers.specs.Vector.{scale, add}
use Rattle.integers.proofs.Laws.{lin}
use Rattle.integers.proofs.Ring.{con, ◌⊕◌, ◌⊖◌, ◌⊗◌, ◌≗◌, ◌≼◌, ◌✶◌, ◌⇐◌, ring3, ring4, combine2, combine4}
use Rattle.integers.proofs.VectorLaws.{get_or-scale, get_or-add}
use Rattle.judgement_matrix.specs.Matrix.{Judgements, range_at}
use Rattle.judgement_matrix.specs.Scale.{value_at, difference, IsMetInUnit}

-- ---- differences

pub difference-scale : (c : ℤ) (w : List ℤ) (p q : ℕ) → difference (scale c w) p q ≡ c *ℤ difference w p q
difference-scale c w p q =
    ap₂ (λ x y. x -ℤ y) (get_or-scale c w (p - 1)) (get_or-scale c w (q - 1))
    ∙ ring3 (λ c x y. c ⊗ x ⊖ c ⊗ y ≗ c ⊗ (x ⊖ y)) refl c (value_at w p) (value_at w q)

pub difference-add : (w v : List ℤ) (p q : ℕ) → difference (add w v) p q ≡ difference w p q +ℤ difference v p q
difference-add w v p q =
    ap₂ (λ x y. x -ℤ y) (get_or-add w v (p - 1)) (get_or-add w v (q - 1))
    ∙ ring4 (λ a b c d. (a ⊕ b) ⊖ (c ⊕ d) ≗ (a ⊖ c) ⊕ (b ⊖ d)) refl (value_at w p) (value_at v p) (value_at w q) (value_at v q)

-- ---- bounds

-- a multiple of a bound
scaled_bound : (c u b d : ℤ) → pos 0 ≤ℤ c → (u *ℤ b) ≤ℤ d → (c *ℤ u *ℤ b) ≤ℤ (c *ℤ d)
scaled_bound = combine4 (λ c u b d. c ⊗ u ⊗ b ≼ c ⊗ d ⇐ c ✶ (u ⊗ b ≼ d) ∷ []) refl

scaled_zero : (c d : ℤ) → pos 0 ≤ℤ c → d ≤ℤ pos 0 → (c *ℤ d) ≤ℤ pos 0
scaled_zero = combine2 (λ c d. c ⊗ d ≼ con (pos 0) ⇐ c ✶ (d ≼ con (pos 0)) ∷ []) refl

-- two bounds summed up
summed_bound : (u t b d e : ℤ) → (u *ℤ b) ≤ℤ d → (t *ℤ b) ≤ℤ e → ((u +ℤ t) *ℤ b) ≤ℤ (d +ℤ e)
summed_bound u t b d e h k =
    let split : (u +ℤ t) *ℤ b ≡ u *ℤ b +ℤ t *ℤ b = ring3 (λ u t b. (u ⊕ t) ⊗ b ≗ u ⊗ b ⊕ t ⊗ b) refl u t b in
    omega (arith, lin, split, h, k)

-- ---- judgements

pub IsMetInUnit-scale : (m : Judgements) (c u : ℤ) (w : List ℤ) → pos 0 ≤ℤ c → IsMetInUnit m u w → IsMetInUnit m (c *ℤ u) (scale c w)
IsMetInUnit-scale m c u w nonneg h = record {
  lower = λ p q in_n. subst (λ d. (c *ℤ u *ℤ pos (range_at m p q).lo) ≤ℤ d) (sym (difference-scale c w p q))
      (scaled_bound c u (pos (range_at m p q).lo) (difference w p q) nonneg (h.lower p q in_n));
  zero = λ p q in_n e. subst (λ d. d ≤ℤ pos 0) (sym (difference-scale c w p q)) (scaled_zero c (difference w p q) nonneg (h.zero p q in_n e));
  cross = λ p q x y left right below.
      let far : ℤ = pos (range_at m p q).lo -ℤ pos (range_at m x y).hi in
      let apart : c *ℤ (difference w p q -ℤ difference w x y) ≡ difference (scale c w) p q -ℤ difference (scale c w) x y =
      sym (ap₂ (λ a b. a -ℤ b) (difference-scale c w p q) (difference-scale c w x y)
      ∙ ring3 (λ c a b. c ⊗ a ⊖ c ⊗ b ≗ c ⊗ (a ⊖ b)) refl c (difference w p q) (difference w x y)) in
      subst (λ d. (c *ℤ u *ℤ far) ≤ℤ d) apart
      (scaled_bound c u far (difference w p q -ℤ difference w x y) nonneg (h.cross p q x y left right below));
}

pub IsMetInUnit-add : (m : Judgements) (u t : ℤ) (w v : List ℤ) → IsMetInUnit m u w → IsMetInUnit m t v → IsMetInUnit m (u +ℤ t) (add w v)
IsMetInUnit-add m u t w v h k = record {
  lower = λ p q in_n. subst (λ d. ((u +ℤ t) *ℤ pos (range_at m p q).lo) ≤ℤ d) (sym (difference-add w v p q))
      (summed_bound u t (pos (range_at m p q).lo) (difference w p q) (difference v p q) (h.lower p q in_n) (k.lower p q in_n));
  zero = λ p q in_n e.
      let first = h.zero p q in_n e in
      let second = k.zero p q in_n e in
      omega (arith, lin, difference-add w v p q, first, second);
  cross = λ p q x y left right below.
      let far : ℤ = pos (range_at m p q).lo -ℤ pos (range_at m x y).hi in
      let apart : (difference w p q -ℤ difference w x y) +ℤ (difference v p q -ℤ difference v x y) ≡ difference (add w v) p q -ℤ difference (add w v) x y =
      omega (arith, lin, difference-add w v p q, difference-add w v x y) in
      subst (λ d. ((u +ℤ t) *ℤ far) ≤ℤ d) apart
      (summed_bound u t far (difference w p q -ℤ difference w x y) (difference v p q -ℤ difference v x y) (h.cross p q x y left right below)
      (k.cross p q x y left right below));
}
