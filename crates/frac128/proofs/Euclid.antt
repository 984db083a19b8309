-- Euclid's steps on two fractions a/b and c/d: whole parts p and q, rests r and s.
use lib.IntN.{*ℤ-zero}
use Rattle.std.specs.Cmp.{int_cmp_is, int_ranks}
use Rattle.std.specs.Int.Signed.{lt_z_yes}
use Rattle.std.specs.Ordering.{MatchOrdering, int_cmp}
use Rattle.std.proofs.Common.{◌≡◌, ◌≢◌, ℤ, pos, ◌+ℤ◌, ◌*ℤ◌, ◌≤ℤ◌, ◌<ℤ◌, Ordering, Less, Equal, Greater, [], ◌∷◌, refl, sym, ap, ◌∙◌, arith}
use Rattle.integers.proofs.Laws.{lin}
use Rattle.integers.proofs.Order.{mul_pos, le_of_lt}
use Rattle.integers.proofs.Ring.{con, neg, ◌⊕◌, ◌⊗◌, ◌≗◌, ◌≼◌, ◌≺◌, ◌✶◌, ◌⇐◌, combine7, combine8}

-- two pairs are ordered alike where each order of the first gives that of the second
pub same_order : (x y u v : ℤ) → (x <ℤ y → u <ℤ v) → (x ≡ y → u ≡ v) → (y <ℤ x → v <ℤ u) → int_cmp x y ≡ int_cmp u v
same_order x y u v f g h = int_cmp_is u v (int_cmp x y) (matched (int_cmp x y) (int_ranks x y))
  where
    matched : (o : Ordering) → MatchOrdering o (x <ℤ y) (x ≡ y) (y <ℤ x) → MatchOrdering o (u <ℤ v) (u ≡ v) (v <ℤ u)
    matched Less p = f p
    matched Equal p = g p
    matched Greater p = h p

-- with one whole part the rests decide: r/b against s/d is d/s against b/r
pub turned : (a b c d q r s : ℤ) → a ≡ q *ℤ b +ℤ r → c ≡ q *ℤ d +ℤ s → int_cmp (d *ℤ r) (b *ℤ s) ≡ int_cmp (a *ℤ d) (c *ℤ b)
turned a b c d q r s e f = same_order (d *ℤ r) (b *ℤ s) (a *ℤ d) (c *ℤ b)
    (λ h. combine7 (λ a b c d q r s. a ⊗ d ≺ c ⊗ b ⇐ d ✶ (a ≗ q ⊗ b ⊕ r) ∷ neg b ✶ (c ≗ q ⊗ d ⊕ s) ∷ con (pos 1) ✶ (d ⊗ r ≺ b ⊗ s) ∷ []) refl a b c d q r s e
    f (lt_z_yes tt) h)
    (λ h. combine7 (λ a b c d q r s. a ⊗ d ≗ c ⊗ b ⇐ d ✶ (a ≗ q ⊗ b ⊕ r) ∷ neg b ✶ (c ≗ q ⊗ d ⊕ s) ∷ con (pos 1) ✶ (d ⊗ r ≗ b ⊗ s) ∷ []) refl a
    b c d q r s e f h)
    (λ h. combine7 (λ a b c d q r s. c ⊗ b ≺ a ⊗ d ⇐ neg d ✶ (a ≗ q ⊗ b ⊕ r) ∷ b ✶ (c ≗ q ⊗ d ⊕ s) ∷ con (pos 1) ✶ (b ⊗ s ≺ d ⊗ r) ∷ []) refl a b c d q r s e
    f (lt_z_yes tt) h)

-- a smaller whole part is a smaller fraction
below : (a b c d p q r s : ℤ) → a ≡ p *ℤ b +ℤ r → c ≡ q *ℤ d +ℤ s → pos 0 <ℤ b → pos 0 <ℤ d → r <ℤ b → pos 0 ≤ℤ s → p <ℤ q → (a *ℤ d) <ℤ (c *ℤ b)
below a b c d p q r s e f pb pd rb s0 h =
    combine8 (λ a b c d p q r s. a ⊗ d ≺ c ⊗ b ⇐ d ✶ (a ≗ p ⊗ b ⊕ r) ∷ neg b ✶ (c ≗ q ⊗ d ⊕ s) ∷ (b ⊗ d) ✶ (p ⊕ con (pos 1) ≼ q) ∷ b ✶ (con (pos 0) ≼ s)
    ∷ d ✶ (r ≺ b) ∷ []) refl a b c d p q r s e f (le_of_lt (pos 0) (b *ℤ d) (mul_pos b d pb pd)) (omega (arith, lin)) (le_of_lt (pos 0) b pb) s0 pd rb

-- whole parts that differ decide
pub floors_decide : (a b c d p q r s : ℤ) → a ≡ p *ℤ b +ℤ r → c ≡ q *ℤ d +ℤ s → pos 0 <ℤ b → pos 0 <ℤ d → pos 0 ≤ℤ r → r <ℤ b → pos 0 ≤ℤ s → s <ℤ d → p ≢ q
    → int_cmp p q ≡ int_cmp (a *ℤ d) (c *ℤ b)
floors_decide a b c d p q r s e f pb pd r0 rb s0 sd n =
    same_order p q (a *ℤ d) (c *ℤ b) (λ h. below a b c d p q r s e f pb pd rb s0 h) (λ h. absurd (n h)) (λ h. below c d a b q p s r f e pd pb sd r0 h)

-- a rest of 0 decides with the other: the left one
pub left_decides : (a b c d q r s : ℤ) → a ≡ q *ℤ b +ℤ r → c ≡ q *ℤ d +ℤ s → pos 0 <ℤ b → pos 0 <ℤ d → pos 0 ≤ℤ s → r ≡ pos 0
    → int_cmp r s ≡ int_cmp (a *ℤ d) (c *ℤ b)
left_decides a b c d q r s e f pb pd s0 z =
    let none : d *ℤ r ≡ pos 0 = ap (λ x. d *ℤ x) z ∙ *ℤ-zero d in
    same_order r s (d *ℤ r) (b *ℤ s)
    (λ h. let k = mul_pos b s pb (omega (arith, lin)) in omega (arith, lin))
    (λ h. none ∙ sym (ap (λ x. b *ℤ x) (sym h ∙ z) ∙ *ℤ-zero b))
    (λ h. absurd (omega (arith, lin)))
    ∙ turned a b c d q r s e f

-- the right one
pub right_decides : (a b c d q r s : ℤ) → a ≡ q *ℤ b +ℤ r → c ≡ q *ℤ d +ℤ s → pos 0 <ℤ b → pos 0 <ℤ d → pos 0 ≤ℤ r → s ≡ pos 0
    → int_cmp r s ≡ int_cmp (a *ℤ d) (c *ℤ b)
right_decides a b c d q r s e f pb pd r0 z =
    let none : b *ℤ s ≡ pos 0 = ap (λ x. b *ℤ x) z ∙ *ℤ-zero b in
    same_order r s (d *ℤ r) (b *ℤ s)
    (λ h. absurd (omega (arith, lin)))
    (λ h. (ap (λ x. d *ℤ x) (h ∙ z) ∙ *ℤ-zero d) ∙ sym none)
    (λ h. let k = mul_pos d r pd (omega (arith, lin)) in omega (arith, lin))
    ∙ turned a b c d q r s e f
