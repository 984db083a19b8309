-- The calls of this crate at work: each goal is closed in a line or two.
use lib.IntN.{*ℤ_comm}
use Rattle.std.proofs.Common.{◌≡◌, ◌↔◌, ℤ, pos, ◌+ℤ◌, ◌-ℤ◌, ◌*ℤ◌, ◌≤ℤ◌, ◌<ℤ◌, [], ◌∷◌, get_or, refl, subst, List, arith}
use Rattle.std.specs.Int.Signed.{le_z_yes}
use Rattle.integers.specs.Vector.{dot, dot_each, AreNonNegative, AreAtMost}
use Rattle.integers.proofs.Laws.{lin, one-*ℤ}
use Rattle.integers.specs.Fraction.{Fraction, AreFractions, IsWriting, common_nums}
use Rattle.integers.proofs.Order.{cancel_lt, mul_pos, pos_of_mul}
use Rattle.integers.proofs.VectorLaws.{get_or-scale}
use Rattle.integers.proofs.Writings.{any_writing}
use Rattle.integers.proofs.VectorOrder.{weak_duality, AreNonNegative-at_most, AreAtMost-refl}
use Rattle.integers.proofs.Ring.{con, neg, ◌⊕◌, ◌⊖◌, ◌⊗◌, ◌≗◌, ◌≼◌, ◌≺◌, ◌✶◌, ◌⇐◌, ring2, ring8, ring10, combine2, combine6, combine11}

-- the square of a sum
square_of_sum : (a b : ℤ) → (a +ℤ b) *ℤ (a +ℤ b) ≡ a *ℤ a +ℤ pos 2 *ℤ (a *ℤ b) +ℤ b *ℤ b
square_of_sum = ring2 (λ a b. (a ⊕ b) ⊗ (a ⊕ b) ≗ a ⊗ a ⊕ con (pos 2) ⊗ (a ⊗ b) ⊕ b ⊗ b) refl

-- the product of two sums of four squares is one
four_squares : (a b c d e f g h : ℤ) → (a *ℤ a +ℤ b *ℤ b +ℤ c *ℤ c +ℤ d *ℤ d) *ℤ (e *ℤ e +ℤ f *ℤ f +ℤ g *ℤ g +ℤ h *ℤ h)
    ≡ (a *ℤ e +ℤ b *ℤ f +ℤ c *ℤ g +ℤ d *ℤ h) *ℤ (a *ℤ e +ℤ b *ℤ f +ℤ c *ℤ g +ℤ d *ℤ h) +ℤ (a *ℤ f -ℤ b *ℤ e +ℤ c *ℤ h -ℤ d *ℤ g)
    *ℤ (a *ℤ f -ℤ b *ℤ e +ℤ c *ℤ h -ℤ d *ℤ g) +ℤ (a *ℤ g -ℤ b *ℤ h -ℤ c *ℤ e +ℤ d *ℤ f) *ℤ (a *ℤ g -ℤ b *ℤ h -ℤ c *ℤ e +ℤ d *ℤ f)
    +ℤ (a *ℤ h +ℤ b *ℤ g -ℤ c *ℤ f -ℤ d *ℤ e) *ℤ (a *ℤ h +ℤ b *ℤ g -ℤ c *ℤ f -ℤ d *ℤ e)
four_squares =
    ring8 (λ a b c d e f g h. (a ⊗ a ⊕ b ⊗ b ⊕ c ⊗ c ⊕ d ⊗ d) ⊗ (e ⊗ e ⊕ f ⊗ f ⊕ g ⊗ g ⊕ h ⊗ h)
    ≗ (a ⊗ e ⊕ b ⊗ f ⊕ c ⊗ g ⊕ d ⊗ h) ⊗ (a ⊗ e ⊕ b ⊗ f ⊕ c ⊗ g ⊕ d ⊗ h) ⊕ (a ⊗ f ⊖ b ⊗ e ⊕ c ⊗ h ⊖ d ⊗ g) ⊗ (a ⊗ f ⊖ b ⊗ e ⊕ c ⊗ h ⊖ d ⊗ g)
    ⊕ (a ⊗ g ⊖ b ⊗ h ⊖ c ⊗ e ⊕ d ⊗ f) ⊗ (a ⊗ g ⊖ b ⊗ h ⊖ c ⊗ e ⊕ d ⊗ f) ⊕ (a ⊗ h ⊕ b ⊗ g ⊖ c ⊗ f ⊖ d ⊗ e) ⊗ (a ⊗ h ⊕ b ⊗ g ⊖ c ⊗ f ⊖ d ⊗ e)) refl

-- a multiple of the second row added to the first keeps the determinant
determinant-row : (a b c d e f g h i k : ℤ) → (a +ℤ k *ℤ d) *ℤ (e *ℤ i -ℤ f *ℤ h) -ℤ (b +ℤ k *ℤ e) *ℤ (d *ℤ i -ℤ f *ℤ g) +ℤ (c +ℤ k *ℤ f) *ℤ (d *ℤ h -ℤ e *ℤ g)
    ≡ a *ℤ (e *ℤ i -ℤ f *ℤ h) -ℤ b *ℤ (d *ℤ i -ℤ f *ℤ g) +ℤ c *ℤ (d *ℤ h -ℤ e *ℤ g)
determinant-row =
    ring10 (λ a b c d e f g h i k. (a ⊕ k ⊗ d) ⊗ (e ⊗ i ⊖ f ⊗ h) ⊖ (b ⊕ k ⊗ e) ⊗ (d ⊗ i ⊖ f ⊗ g) ⊕ (c ⊕ k ⊗ f) ⊗ (d ⊗ h ⊖ e ⊗ g)
    ≗ a ⊗ (e ⊗ i ⊖ f ⊗ h) ⊖ b ⊗ (d ⊗ i ⊖ f ⊗ g) ⊕ c ⊗ (d ⊗ h ⊖ e ⊗ g)) refl

-- the pivot row operation from its two row equations, D q = B + T u + X and R r = C + P u + Y: the quantity u is eliminated
pivot_from_equations : (D q B T u X R r C P Y : ℤ) → D *ℤ q ≡ B +ℤ T *ℤ u +ℤ X → R *ℤ r ≡ C +ℤ P *ℤ u +ℤ Y
    → P *ℤ D *ℤ q ≡ (P *ℤ B -ℤ T *ℤ C) +ℤ T *ℤ R *ℤ r +ℤ (P *ℤ X -ℤ T *ℤ Y)
pivot_from_equations =
    combine11 (λ D q B T u X R r C P Y. P ⊗ D ⊗ q ≗ (P ⊗ B ⊖ T ⊗ C) ⊕ T ⊗ R ⊗ r ⊕ (P ⊗ X ⊖ T ⊗ Y)
    ⇐ P ✶ (D ⊗ q ≗ B ⊕ T ⊗ u ⊕ X) ∷ neg T ✶ (R ⊗ r ≗ C ⊕ P ⊗ u ⊕ Y) ∷ []) refl

-- a/b < c/d < e/f: first with the factor d on both sides, which is then cancelled
between : (a b c d e f : ℤ) → pos 0 <ℤ b → pos 0 <ℤ d → pos 0 <ℤ f → (a *ℤ d) <ℤ (c *ℤ b) → (c *ℤ f) <ℤ (e *ℤ d) → (a *ℤ f) <ℤ (e *ℤ b)
between a b c d e f pb pd pf p q =
    cancel_lt (a *ℤ f) (e *ℤ b) d pd (combine6 (λ a b c d e f. a ⊗ f ⊗ d ≺ e ⊗ b ⊗ d ⇐ f ✶ (a ⊗ d ≺ c ⊗ b) ∷ b ✶ (c ⊗ f ≺ e ⊗ d) ∷ []) refl a b
    c d e f pf p pb q)

-- twice the lesser of two numbers is at most their sum
twice_the_lesser : (a b : ℤ) → a ≤ℤ b → (pos 2 *ℤ a) ≤ℤ (a +ℤ b)
twice_the_lesser a b h = combine2 (λ a b. con (pos 2) ⊗ a ≼ a ⊕ b ⇐ con (pos 1) ✶ (a ≼ b) ∷ []) refl a b (le_z_yes tt) h

-- weak duality on two constraints and three unknowns: x + y ≥ 2 and y + z ≥ 3 give x + 2 y + z ≥ 5
two_by_three : (x y z : ℤ) → AreNonNegative (x ∷ y ∷ z ∷ [])
    → AreAtMost (pos 2 ∷ pos 3 ∷ []) (dot_each ((pos 1 ∷ pos 1 ∷ pos 0 ∷ []) ∷ (pos 0 ∷ pos 1 ∷ pos 1 ∷ []) ∷ []) (x ∷ y ∷ z ∷ []))
    → pos 5 ≤ℤ dot (pos 1 ∷ pos 2 ∷ pos 1 ∷ []) (x ∷ y ∷ z ∷ [])
two_by_three x y z h meets =
    let rows : List (List ℤ) = (pos 1 ∷ pos 1 ∷ pos 0 ∷ []) ∷ (pos 0 ∷ pos 1 ∷ pos 1 ∷ []) ∷ [] in
    let ones : AreNonNegative (pos 1 ∷ pos 1 ∷ []) = (AreNonNegative-at_most (pos 1 ∷ pos 1 ∷ [])).1 (le_z_yes tt, (le_z_yes tt, tt)) in
    let bound =
    weak_duality rows (x ∷ y ∷ z ∷ []) (pos 2 ∷ pos 3 ∷ []) (pos 1 ∷ pos 1 ∷ []) (pos 1 ∷ pos 2 ∷ pos 1 ∷ []) (pos 1) meets h ones
    (AreAtMost-refl (pos 1 ∷ pos 2 ∷ pos 1 ∷ [])) in
    omega (arith, lin, one-*ℤ (dot (pos 1 ∷ pos 2 ∷ pos 1 ∷ []) (x ∷ y ∷ z ∷ [])))

-- that the first number of a list of fractions is above 0 doesn't depend on how the list is written
starts_above : (fs : List Fraction) (w : List ℤ) (n : ℤ) (v : List ℤ) (m : ℤ) → AreFractions fs → IsWriting fs w n → IsWriting fs v m
    → pos 0 <ℤ get_or w 0 (pos 0) ↔ pos 0 <ℤ get_or v 0 (pos 0)
starts_above = any_writing (λ w n. pos 0 <ℤ get_or w 0 (pos 0)) (λ c w n pc pn. rw (get_or-scale c w 0) (
  mul_pos c (get_or w 0 (pos 0)) pc,
  λ h. pos_of_mul (get_or w 0 (pos 0)) c pc (subst (λ z. pos 0 <ℤ z) (*ℤ_comm c (get_or w 0 (pos 0))) h),
))

-- 1/2 and 2/3 as numbers over 6
half_and_two_thirds : common_nums (record { num = pos 1; den = pos 2 } ∷ record { num = pos 2; den = pos 3 } ∷ []) ≡ pos 3 ∷ pos 4 ∷ []
half_and_two_thirds = refl
