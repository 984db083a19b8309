-- Order and products: sums and products of signed facts, cancelling a positive factor, fractions by cross products.
use lib.IntN.{zero-*ℤ}
use Rattle.std.proofs.lemmas.Int.{by_lt_z}
use Rattle.std.proofs.Common.{◌≡◌, ◌⊎◌, ◌↔◌, inl, inr, ℤ, pos, ◌*ℤ◌, ◌≤ℤ◌, ◌<ℤ◌, [], ◌∷◌, refl, sym, subst, ◌∙◌, arith}
use Rattle.integers.proofs.Laws.{lin}
use Rattle.integers.proofs.Ring.{neg, ◌⊗◌, ◌≗◌, ◌≼◌, ◌≺◌, ◌✶◌, ◌⇐◌, combine3, combine5, combine6}
pub use Rattle.integers.proofs.Laws.{mul_nonneg, mul_pos}

-- ---- chains

-- at most, and at most again
pub le_trans : (a b c : ℤ) → a ≤ℤ b → b ≤ℤ c → a ≤ℤ c
le_trans a b c p q = omega (arith, lin)

-- each at most the other
pub le_antisymm : (a b : ℤ) → a ≤ℤ b → b ≤ℤ a → a ≡ b
le_antisymm a b p q = omega (arith, lin)

-- below is at most
pub le_of_lt : (a b : ℤ) → a <ℤ b → a ≤ℤ b
le_of_lt a b p = omega (arith, lin)

-- of two numbers one is below the other or they are equal
pub lt_cases : (a b : ℤ) → a <ℤ b ⊎ (a ≡ b) ⊎ b <ℤ a
lt_cases a b = by_lt_z a b inl (λ p. by_lt_z b a (λ q. inr (inr q)) (λ q. inr (inl (omega (arith, lin)))))

-- ---- a factor on both sides

-- both sides of ≤ times a number that is not negative
pub mul_le : (a b c : ℤ) → pos 0 ≤ℤ c → a ≤ℤ b → (a *ℤ c) ≤ℤ (b *ℤ c)
mul_le a b c = combine3 (λ a b c. a ⊗ c ≼ b ⊗ c ⇐ c ✶ (a ≼ b) ∷ []) refl a b c

-- both sides of < times a positive number
pub mul_lt : (a b c : ℤ) → pos 0 <ℤ c → a <ℤ b → (a *ℤ c) <ℤ (b *ℤ c)
mul_lt a b c = combine3 (λ a b c. a ⊗ c ≺ b ⊗ c ⇐ c ✶ (a ≺ b) ∷ []) refl a b c

-- a positive factor is cancelled from <
pub cancel_lt : (a b c : ℤ) → pos 0 <ℤ c → (a *ℤ c) <ℤ (b *ℤ c) → a <ℤ b
cancel_lt a b c p h = by_lt_z a b (λ q. q) (λ q. let k = mul_le b a c (le_of_lt (pos 0) c p) q in absurd (omega (arith, lin)))

-- a positive factor is cancelled from ≤
pub cancel_le : (a b c : ℤ) → pos 0 <ℤ c → (a *ℤ c) ≤ℤ (b *ℤ c) → a ≤ℤ b
cancel_le a b c p h = by_lt_z b a (λ q. let k = mul_lt b a c p q in absurd (omega (arith, lin))) (λ q. q)

-- a positive factor is cancelled from an equation
pub cancel_eq : (a b c : ℤ) → pos 0 <ℤ c → a *ℤ c ≡ b *ℤ c → a ≡ b
cancel_eq a b c p h = le_antisymm a b (cancel_le a b c p (omega (arith, lin))) (cancel_le b a c p (omega (arith, lin)))

-- a product with a positive factor is 0 only where the other factor is
pub zero_of_mul : (a b : ℤ) → pos 0 <ℤ b → a *ℤ b ≡ pos 0 → a ≡ pos 0
zero_of_mul a b p h = cancel_eq a (pos 0) b p (h ∙ sym (zero-*ℤ b))

-- a factor beside a positive one has the product's sign
pub pos_of_mul : (a b : ℤ) → pos 0 <ℤ b → pos 0 <ℤ (a *ℤ b) → pos 0 <ℤ a
pos_of_mul a b p h = let z = zero-*ℤ b in cancel_lt (pos 0) a b p (omega (arith, lin))

-- the same where the product is not negative
pub nonneg_of_mul : (a b : ℤ) → pos 0 <ℤ b → pos 0 ≤ℤ (a *ℤ b) → pos 0 ≤ℤ a
nonneg_of_mul a b p h = let z = zero-*ℤ b in cancel_le (pos 0) a b p (omega (arith, lin))

-- ---- fractions a/b, c/d and e/f by cross products, with positive denominators

-- below, then below
pub fraction_lt_lt : (a b c d e f : ℤ) → pos 0 <ℤ b → pos 0 <ℤ d → pos 0 <ℤ f → (a *ℤ d) <ℤ (c *ℤ b) → (c *ℤ f) <ℤ (e *ℤ d) → (a *ℤ f) <ℤ (e *ℤ b)
fraction_lt_lt a b c d e f pb pd pf h k =
    cancel_lt (a *ℤ f) (e *ℤ b) d pd (combine6 (λ a b c d e f. a ⊗ f ⊗ d ≺ e ⊗ b ⊗ d ⇐ f ✶ (a ⊗ d ≺ c ⊗ b) ∷ b ✶ (c ⊗ f ≺ e ⊗ d) ∷ []) refl a b
    c d e f pf h pb k)

-- below, then equal
pub fraction_lt_eq : (a b c d e f : ℤ) → pos 0 <ℤ b → pos 0 <ℤ d → pos 0 <ℤ f → (a *ℤ d) <ℤ (c *ℤ b) → c *ℤ f ≡ e *ℤ d → (a *ℤ f) <ℤ (e *ℤ b)
fraction_lt_eq a b c d e f pb pd pf h k =
    cancel_lt (a *ℤ f) (e *ℤ b) d pd (combine6 (λ a b c d e f. a ⊗ f ⊗ d ≺ e ⊗ b ⊗ d ⇐ f ✶ (a ⊗ d ≺ c ⊗ b) ∷ b ✶ (c ⊗ f ≗ e ⊗ d) ∷ []) refl a b c d e f pf h k)

-- at most, then at most
pub fraction_le_le : (a b c d e f : ℤ) → pos 0 <ℤ b → pos 0 <ℤ d → pos 0 <ℤ f → (a *ℤ d) ≤ℤ (c *ℤ b) → (c *ℤ f) ≤ℤ (e *ℤ d) → (a *ℤ f) ≤ℤ (e *ℤ b)
fraction_le_le a b c d e f pb pd pf h k =
    cancel_le (a *ℤ f) (e *ℤ b) d pd (combine6 (λ a b c d e f. a ⊗ f ⊗ d ≼ e ⊗ b ⊗ d ⇐ f ✶ (a ⊗ d ≼ c ⊗ b) ∷ b ✶ (c ⊗ f ≼ e ⊗ d) ∷ []) refl a b c d e f
    (le_of_lt (pos 0) f pf) h (le_of_lt (pos 0) b pb) k)

-- at most, then equal
pub fraction_le_eq : (a b c d e f : ℤ) → pos 0 <ℤ b → pos 0 <ℤ d → pos 0 <ℤ f → (a *ℤ d) ≤ℤ (c *ℤ b) → c *ℤ f ≡ e *ℤ d → (a *ℤ f) ≤ℤ (e *ℤ b)
fraction_le_eq a b c d e f pb pd pf h k =
    cancel_le (a *ℤ f) (e *ℤ b) d pd (combine6 (λ a b c d e f. a ⊗ f ⊗ d ≼ e ⊗ b ⊗ d ⇐ f ✶ (a ⊗ d ≼ c ⊗ b) ∷ b ✶ (c ⊗ f ≗ e ⊗ d) ∷ []) refl a b c d e f
    (le_of_lt (pos 0) f pf) h k)

-- equal, then below
pub fraction_eq_lt : (a b c d e f : ℤ) → pos 0 <ℤ b → pos 0 <ℤ d → pos 0 <ℤ f → a *ℤ d ≡ c *ℤ b → (c *ℤ f) <ℤ (e *ℤ d) → (a *ℤ f) <ℤ (e *ℤ b)
fraction_eq_lt a b c d e f pb pd pf h k =
    cancel_lt (a *ℤ f) (e *ℤ b) d pd (combine6 (λ a b c d e f. a ⊗ f ⊗ d ≺ e ⊗ b ⊗ d ⇐ f ✶ (a ⊗ d ≗ c ⊗ b) ∷ b ✶ (c ⊗ f ≺ e ⊗ d) ∷ []) refl a b c d e f h pb k)

-- equal, then at most
pub fraction_eq_le : (a b c d e f : ℤ) → pos 0 <ℤ b → pos 0 <ℤ d → pos 0 <ℤ f → a *ℤ d ≡ c *ℤ b → (c *ℤ f) ≤ℤ (e *ℤ d) → (a *ℤ f) ≤ℤ (e *ℤ b)
fraction_eq_le a b c d e f pb pd pf h k =
    cancel_le (a *ℤ f) (e *ℤ b) d pd (combine6 (λ a b c d e f. a ⊗ f ⊗ d ≼ e ⊗ b ⊗ d ⇐ f ✶ (a ⊗ d ≗ c ⊗ b) ∷ b ✶ (c ⊗ f ≼ e ⊗ d) ∷ []) refl a b c d e f h
    (le_of_lt (pos 0) b pb) k)

-- equal, then equal
pub fraction_eq_eq : (a b c d e f : ℤ) → pos 0 <ℤ b → pos 0 <ℤ d → pos 0 <ℤ f → a *ℤ d ≡ c *ℤ b → c *ℤ f ≡ e *ℤ d → a *ℤ f ≡ e *ℤ b
fraction_eq_eq a b c d e f pb pd pf h k =
    cancel_eq (a *ℤ f) (e *ℤ b) d pd (combine6 (λ a b c d e f. a ⊗ f ⊗ d ≗ e ⊗ b ⊗ d ⇐ f ✶ (a ⊗ d ≗ c ⊗ b) ∷ b ✶ (c ⊗ f ≗ e ⊗ d) ∷ []) refl a b c d e f h k)

-- of two fractions one is below the other or they are equal
pub fraction_cases : (a b c d : ℤ) → (a *ℤ d) <ℤ (c *ℤ b) ⊎ (a *ℤ d ≡ c *ℤ b) ⊎ (c *ℤ b) <ℤ (a *ℤ d)
fraction_cases a b c d = lt_cases (a *ℤ d) (c *ℤ b)

-- ---- a common divisor k of both parts: a = c k and b = d k

-- the divided fraction is the same number
pub divided_same : (a b c d k : ℤ) → a ≡ c *ℤ k → b ≡ d *ℤ k → a *ℤ d ≡ c *ℤ b
divided_same = combine5 (λ a b c d k. a ⊗ d ≗ c ⊗ b ⇐ d ✶ (a ≗ c ⊗ k) ∷ neg c ✶ (b ≗ d ⊗ k) ∷ []) refl

-- a positive divisor keeps the sign: positive
pub divided_pos : (a c k : ℤ) → pos 0 <ℤ k → a ≡ c *ℤ k → pos 0 <ℤ a ↔ pos 0 <ℤ c
divided_pos a c k p e = (λ h. pos_of_mul c k p (subst (λ x. pos 0 <ℤ x) e h), λ h. subst (λ x. pos 0 <ℤ x) (sym e) (mul_pos c k h p))
