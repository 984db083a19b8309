-- The laws of a commutative ring that std leaves out, and the sets of them that tactics take.
use borrow.Author.Differences.{up, down, sum_is_lem, product_is, neg_is, same_in, same_out, lt_out, le_out, lt_in, le_in, below_in, at_most_in}
use lib.IntN.{+ℤ_assoc, +ℤ_comm, +ℤ_idl, +ℤ_idr, *ℤ_comm, *ℤ-zero, zero-*ℤ, neg_ℤ-+ℤ, neg_ℤ-neg_ℤ}
use Rattle.std.proofs.lemmas.Int.{ints}
use Rattle.std.proofs.lemmas.Grind.{common_steps}
use Rattle.std.proofs.Common.{◌≡◌, ◌*◌, ℤ, pos, negsuc, ◌+ℤ◌, ◌*ℤ◌, neg_ℤ, ◌≤ℤ◌, ◌<ℤ◌, sym, ap, ap₂, ◌∙◌, arith}

-- a factor goes into a sum
pub *ℤ-+ℤ : (a b c : ℤ) → a *ℤ (b +ℤ c) ≡ a *ℤ b +ℤ a *ℤ c
*ℤ-+ℤ a b c = omega (arith, ints, ap (λ n. up a * n) (sum_is_lem b c), ap (λ n. down a * n) (sum_is_lem b c))

-- a sum times a factor
pub +ℤ-*ℤ : (a b c : ℤ) → (a +ℤ b) *ℤ c ≡ a *ℤ c +ℤ b *ℤ c
+ℤ-*ℤ a b c = *ℤ_comm (a +ℤ b) c ∙ *ℤ-+ℤ c a b ∙ ap₂ (λ x y. x +ℤ y) (*ℤ_comm c a) (*ℤ_comm c b)

-- products may be bracketed at will
pub *ℤ_assoc : (a b c : ℤ) → (a *ℤ b) *ℤ c ≡ a *ℤ (b *ℤ c)
*ℤ_assoc a b c =
    let ab = product_is a b in
    let bc = product_is b c in
    omega (
      arith,
      ints,
      ap (λ n. up c * n) ab.0,
      ap (λ n. down c * n) ab.0,
      ap (λ n. up c * n) ab.1,
      ap (λ n. down c * n) ab.1,
      ap (λ n. up a * n) bc.0,
      ap
          (λ n. down a * n) bc.0,
      ap (λ n. up a * n) bc.1,
      ap (λ n. down a * n) bc.1,
    )

-- the first two of three factors change places
pub *ℤ_left_comm : (a b c : ℤ) → a *ℤ (b *ℤ c) ≡ b *ℤ (a *ℤ c)
*ℤ_left_comm a b c = sym (*ℤ_assoc a b c) ∙ ap (λ x. x *ℤ c) (*ℤ_comm a b) ∙ *ℤ_assoc b a c

-- the first two of three summands change places
pub +ℤ_left_comm : (a b c : ℤ) → a +ℤ (b +ℤ c) ≡ b +ℤ (a +ℤ c)
+ℤ_left_comm a b c = omega (arith, ints)

-- a sign comes out of the first factor
pub neg_ℤ-*ℤ : (a b : ℤ) → neg_ℤ a *ℤ b ≡ neg_ℤ (a *ℤ b)
neg_ℤ-*ℤ a b =
    let na = neg_is a in
    omega (arith, ints, ap (λ n. n * up b) na.0, ap (λ n. n * down b) na.0, ap (λ n. n * up b) na.1, ap (λ n. n * down b) na.1)

-- a sign comes out of the second factor
pub *ℤ-neg_ℤ : (a b : ℤ) → a *ℤ neg_ℤ b ≡ neg_ℤ (a *ℤ b)
*ℤ-neg_ℤ a b = *ℤ_comm a (neg_ℤ b) ∙ neg_ℤ-*ℤ b a ∙ ap neg_ℤ (*ℤ_comm b a)

-- one times a number
pub one-*ℤ : (a : ℤ) → pos 1 *ℤ a ≡ a
one-*ℤ a = omega (arith, ints)

-- a number times one
pub *ℤ-one : (a : ℤ) → a *ℤ pos 1 ≡ a
*ℤ-one a = *ℤ_comm a (pos 1) ∙ one-*ℤ a

-- minus one times a number
pub minus_one-*ℤ : (a : ℤ) → negsuc 0 *ℤ a ≡ neg_ℤ a
minus_one-*ℤ a = neg_ℤ-*ℤ (pos 1) a ∙ ap neg_ℤ (one-*ℤ a)

-- for `simp`: a term as a sum of products, each product sorted; numerals count as factors
pub ruleset ring_laws = (*ℤ-+ℤ, +ℤ-*ℤ, *ℤ_assoc, *ℤ_left_comm, *ℤ_comm, +ℤ_assoc, +ℤ_left_comm, +ℤ_comm)

-- the same with signs outermost
pub ruleset ring_neg = (ring_laws, neg_ℤ-*ℤ, *ℤ-neg_ℤ, neg_ℤ-+ℤ, neg_ℤ-neg_ℤ)

-- for `omega`: linear facts on integers, in which a product is an unknown
pub ruleset lin = (sum_is_lem, neg_is, same_in, same_out, lt_out, le_out, lt_in, le_in, below_in, at_most_in)

-- ---- the sign of a product

-- two numbers that are not negative have such a product
pub mul_nonneg : (a b : ℤ) → pos 0 ≤ℤ a → pos 0 ≤ℤ b → pos 0 ≤ℤ (a *ℤ b)
mul_nonneg a b p q = grind (arith, ints)

-- two positive numbers have a positive product
pub mul_pos : (a b : ℤ) → pos 0 <ℤ a → pos 0 <ℤ b → pos 0 <ℤ (a *ℤ b)
mul_pos a b p q = grind (arith, common_steps)
