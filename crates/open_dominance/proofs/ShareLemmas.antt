-- The share of a counterexample is above 0 and at most 1, and its mixture has a value below 0.
use lib.IntN.{zero-*ℤ}
use Rattle.std.proofs.Common.{◌≡◌, Bool, true, false, [], ◌∷◌, ℤ, pos, ◌+ℤ◌, ◌-ℤ◌, ◌*ℤ◌, ◌≤ℤ◌, ◌<ℤ◌, refl, subst, arith}
use Rattle.std.specs.Int.Signed.{lt_z_yes}
use Rattle.std.specs.Prelude.{int_lt, if◌then◌else◌}
use Rattle.integers.specs.Fraction.{Fraction, IsFraction, fraction_of, fraction_difference, fraction_quotient}
use Rattle.integers.proofs.Laws.{lin}
use Rattle.integers.proofs.Order.{mul_pos, mul_lt, le_of_lt}
use Rattle.integers.proofs.OrderTests.{int_lt-Decides, int_lt-false}
use Rattle.integers.proofs.Ring.{con, ◌⊕◌, ◌⊖◌, ◌⊗◌, ◌≗◌, ◌≼◌, ◌✶◌, ◌⇐◌, ring2, ring3, ring4, combine4}
use Rattle.open_dominance.specs.Share.{half, share, mixed_value, IsShare}

-- ---- numbers: a/b is the optimum's value, c/d the open point's

-- half of the optimum's value
negative : (a d : ℤ) → a <ℤ pos 0 → pos 0 <ℤ d → (a *ℤ d) <ℤ pos 0
negative a d h pd = let l = mul_lt a (pos 0) d pd h in omega (arith, lin, l, zero-*ℤ d)

once : (a d : ℤ) → a *ℤ pos 1 *ℤ d ≡ a *ℤ d
once = ring2 (λ a d. a ⊗ con (pos 1) ⊗ d ≗ a ⊗ d) refl

twice : (c b : ℤ) → c *ℤ (b *ℤ pos 2) ≡ c *ℤ b +ℤ c *ℤ b
twice = ring2 (λ c b. c ⊗ (b ⊗ con (pos 2)) ≗ c ⊗ b ⊕ c ⊗ b) refl

-- the open point's value is above the optimum's
apart : (a b c d : ℤ) → a <ℤ pos 0 → pos 0 <ℤ d → (a *ℤ pos 1 *ℤ d) <ℤ (c *ℤ (b *ℤ pos 2)) → pos 0 <ℤ (c *ℤ b -ℤ a *ℤ d)
apart a b c d h pd test = let below = negative a d h pd in omega (arith, lin, below, test, once a d, twice c b)

num_pos : (a b d : ℤ) → a <ℤ pos 0 → pos 0 <ℤ b → pos 0 <ℤ d → pos 0 <ℤ ((pos 0 *ℤ (b *ℤ pos 2) -ℤ a *ℤ pos 1 *ℤ pos 1) *ℤ (d *ℤ b))
num_pos a b d h pb pd =
    subst (λ z. pos 0 <ℤ z) (ring3 (λ a b d. (con (pos 0) ⊖ a) ⊗ (d ⊗ b) ≗ (con (pos 0) ⊗ (b ⊗ con (pos 2)) ⊖ a ⊗ con (pos 1) ⊗ con (pos 1)) ⊗ (d ⊗ b)) refl a b d)
    (mul_pos (pos 0 -ℤ a) (d *ℤ b) (omega (arith, lin, h)) (mul_pos d b pd pb))

den_pos : (b n : ℤ) → pos 0 <ℤ b → pos 0 <ℤ n → pos 0 <ℤ (pos 1 *ℤ (b *ℤ pos 2) *ℤ n)
den_pos b n pb pn =
    subst (λ z. pos 0 <ℤ z) (ring2 (λ b n. (b ⊗ con (pos 2)) ⊗ n ≗ con (pos 1) ⊗ (b ⊗ con (pos 2)) ⊗ n) refl b n)
    (mul_pos (b *ℤ pos 2) n (mul_pos b (pos 2) pb (lt_z_yes tt)) pn)

at_most_one : (a b c d : ℤ) → pos 0 ≤ℤ b → (a *ℤ pos 1 *ℤ d) ≤ℤ (c *ℤ (b *ℤ pos 2))
    → ((pos 0 *ℤ (b *ℤ pos 2) -ℤ a *ℤ pos 1 *ℤ pos 1) *ℤ (d *ℤ b)) ≤ℤ (pos 1 *ℤ (b *ℤ pos 2) *ℤ (c *ℤ b -ℤ a *ℤ d))
at_most_one = combine4 (λ a b c d. (con (pos 0) ⊗ (b ⊗ con (pos 2)) ⊖ a ⊗ con (pos 1) ⊗ con (pos 1)) ⊗ (d ⊗ b) ≼ con (pos 1) ⊗ (b ⊗ con (pos 2)) ⊗ (c ⊗ b ⊖ a ⊗ d)
    ⇐ b ✶ (a ⊗ con (pos 1) ⊗ d ≼ c ⊗ (b ⊗ con (pos 2))) ∷ []) refl

mixed_half : (a b d n : ℤ) → a <ℤ pos 0 → pos 0 <ℤ b → pos 0 <ℤ d → pos 0 <ℤ n
    → (a *ℤ (pos 1 *ℤ (b *ℤ pos 2) *ℤ n *ℤ (d *ℤ b)) +ℤ (pos 0 *ℤ (b *ℤ pos 2) -ℤ a *ℤ pos 1 *ℤ pos 1) *ℤ (d *ℤ b) *ℤ n *ℤ b) <ℤ pos 0
mixed_half a b d n h pb pd pn =
    subst (λ z. z <ℤ pos 0)
    (ring4 (λ a b d n. a ⊗ ((b ⊗ b) ⊗ (d ⊗ n)) ≗ a ⊗ (con (pos 1) ⊗ (b ⊗ con (pos 2)) ⊗ n ⊗ (d ⊗ b)) ⊕ (con (pos 0) ⊗ (b ⊗ con (pos 2)) ⊖ a ⊗ con (pos 1) ⊗ con (pos 1)) ⊗ (d ⊗ b) ⊗ n ⊗ b) refl a b d n)
    (negative a ((b *ℤ b) *ℤ (d *ℤ n)) h (mul_pos (b *ℤ b) (d *ℤ n) (mul_pos b b pb pb) (mul_pos d n pd pn)))

mixed_whole : (a b c d : ℤ) → a <ℤ pos 0 → pos 0 <ℤ b → pos 0 <ℤ d → (c *ℤ (b *ℤ pos 2)) ≤ℤ (a *ℤ pos 1 *ℤ d)
    → (a *ℤ (pos 1 *ℤ (d *ℤ b)) +ℤ pos 1 *ℤ (c *ℤ b -ℤ a *ℤ d) *ℤ b) <ℤ pos 0
mixed_whole a b c d h pb pd test =
    let below = negative a d h pd in
    subst (λ z. z <ℤ pos 0) (ring4 (λ a b c d. (c ⊗ b) ⊗ b ≗ a ⊗ (con (pos 1) ⊗ (d ⊗ b)) ⊕ con (pos 1) ⊗ (c ⊗ b ⊖ a ⊗ d) ⊗ b) refl a b c d)
    (negative (c *ℤ b) b (omega (arith, lin, below, test, once a d, twice c b)) pb)

-- ---- the share

by_test : (P : Fraction → Type 0) (t : Bool) (x y : Fraction) → (t ≡ true → P x) → (t ≡ false → P y) → P (if t then x else y)
by_test P true x y met unmet = met refl
by_test P false x y met unmet = unmet refl

pub shares_are_shares : (g h : Fraction) → IsFraction g → IsFraction h → g.num <ℤ pos 0 → IsShare (share g h) × (mixed_value g h (share g h)).num <ℤ pos 0
shares_are_shares g h pg ph below =
    by_test (λ s. IsShare s × (mixed_value g h s).num <ℤ pos 0) (int_lt ((half g).num *ℤ h.den) (h.num *ℤ (half g).den))
    (fraction_quotient (fraction_difference (fraction_of (pos 0)) (half g)) (fraction_difference h g)) (fraction_of (pos 1)) part whole
  where
    part : int_lt ((half g).num *ℤ h.den) (h.num *ℤ (half g).den) ≡ true
        → IsShare (fraction_quotient (fraction_difference (fraction_of (pos 0)) (half g)) (fraction_difference h g))
        × (mixed_value g h (fraction_quotient (fraction_difference (fraction_of (pos 0)) (half g)) (fraction_difference h g))).num <ℤ pos 0
    part e =
        let test = (int_lt-Decides ((half g).num *ℤ h.den) (h.num *ℤ (half g).den)).0 e in
        let n_pos = apart g.num g.den h.num h.den below ph test in (
          record {
            den_pos = den_pos g.den (h.num *ℤ g.den -ℤ g.num *ℤ h.den) pg n_pos;
            above = num_pos g.num g.den h.den below pg ph;
            most = at_most_one g.num g.den h.num h.den (le_of_lt (pos 0) g.den pg) (le_of_lt ((half g).num *ℤ h.den) (h.num *ℤ (half g).den) test);
          },
          mixed_half g.num g.den h.den (h.num *ℤ g.den -ℤ g.num *ℤ h.den) below pg ph n_pos,
        )

    whole : int_lt ((half g).num *ℤ h.den) (h.num *ℤ (half g).den) ≡ false → IsShare (fraction_of (pos 1)) × (mixed_value g h (fraction_of (pos 1))).num <ℤ pos 0
    whole e = (
      record { den_pos = lt_z_yes tt; above = lt_z_yes tt; most = omega (arith, lin) },
      mixed_whole g.num g.den h.num h.den below pg ph ((int_lt-false ((half g).num *ℤ h.den) (h.num *ℤ (half g).den)).0 e),
    )
