-- Sums, differences, products and quotients of fractions: they see the number alone, and they go with the order.
use Rattle.std.proofs.Common.{[], ◌∷◌, ℤ, refl, arith}
use Rattle.integers.specs.Fraction.{Fraction, IsFraction, SameFraction, fraction_of, fraction_sum, fraction_product}
use Rattle.integers.proofs.Laws.{lin}
use Rattle.integers.proofs.Order.{mul_pos}
use Rattle.integers.proofs.Ring.{◌⊕◌, ◌⊗◌, ◌≗◌, ◌✶◌, ◌⇐◌, ring6, combine8}

-- ---- the same number in other writings

-- a sum sees the numbers alone
pub fraction_sum-same : (f g h k : Fraction) → SameFraction f h → SameFraction g k → SameFraction (fraction_sum f g) (fraction_sum h k)
fraction_sum-same f g h k =
    combine8 (λ a b c d p q r s. (a ⊗ d ⊕ c ⊗ b) ⊗ (q ⊗ s) ≗ (p ⊗ s ⊕ r ⊗ q) ⊗ (b ⊗ d) ⇐ (d ⊗ s) ✶ (a ⊗ q ≗ p ⊗ b) ∷ (b ⊗ q) ✶ (c ⊗ s ≗ r ⊗ d) ∷ []) refl f.num
    f.den g.num g.den h.num h.den k.num k.den

-- so does a product
pub fraction_product-same : (f g h k : Fraction) → SameFraction f h → SameFraction g k → SameFraction (fraction_product f g) (fraction_product h k)
fraction_product-same f g h k =
    combine8 (λ a b c d p q r s. a ⊗ c ⊗ (q ⊗ s) ≗ p ⊗ r ⊗ (b ⊗ d) ⇐ (c ⊗ s) ✶ (a ⊗ q ≗ p ⊗ b) ∷ (p ⊗ b) ✶ (c ⊗ s ≗ r ⊗ d) ∷ []) refl f.num f.den g.num g.den
    h.num h.den k.num k.den

-- ---- laws of arithmetic

pub fraction_sum_assoc : (f g h : Fraction) → SameFraction (fraction_sum (fraction_sum f g) h) (fraction_sum f (fraction_sum g h))
fraction_sum_assoc f g h =
    ring6 (λ a b c d p q. ((a ⊗ d ⊕ c ⊗ b) ⊗ q ⊕ p ⊗ (b ⊗ d)) ⊗ (b ⊗ (d ⊗ q)) ≗ (a ⊗ (d ⊗ q) ⊕ (c ⊗ q ⊕ p ⊗ d) ⊗ b) ⊗ (b ⊗ d ⊗ q)) refl f.num f.den
    g.num g.den h.num h.den

-- ---- positive denominators

pub IsFraction-sum : (f g : Fraction) → IsFraction f → IsFraction g → IsFraction (fraction_sum f g)
IsFraction-sum f g pf pg = mul_pos f.den g.den pf pg

pub IsFraction-product : (f g : Fraction) → IsFraction f → IsFraction g → IsFraction (fraction_product f g)
IsFraction-product f g pf pg = mul_pos f.den g.den pf pg

-- the denominator of a whole number
pub IsFraction-whole : (z : ℤ) → IsFraction (fraction_of z)
IsFraction-whole z = omega (arith, lin)
