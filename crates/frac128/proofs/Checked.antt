-- Checked arithmetic: each answer is the exact one in lowest terms, and the only such.
use Rattle.std.specs.List.{list_all}
use Rattle.std.proofs.lemmas.Bool.Decides.{nat_tests}
use Rattle.std.proofs.Common.{◌≡◌, ◌≢◌, ◌↔◌, Bool, true, false, ◌&&◌, List, [], ◌∷◌, Result, Ok, Err, ℤ, zero, suc, pos, negsuc, refl, sym, ap, ◌∙◌, arith}
use Rattle.integers.specs.Divisibility.{gcd_of}
use Rattle.integers.specs.Fraction.{Fraction, IsFraction, SameFraction, fraction_sum, fraction_difference, fraction_product, fraction_quotient}
use Rattle.integers.proofs.Divisibility.{IsGcdOf-gcd_of, gcd_of_nonneg, same_parts}
use Rattle.integers.proofs.Fractions.{SameFraction-trans}
use Rattle.integers.proofs.Laws.{lin}
use Rattle.integers.proofs.Order.{mul_pos}
use Rattle.frac128.specs.Range.{IsInRange, is_in_range}
use Rattle.frac128.specs.Frac.{IsReduced, lowest_terms, opposite, reciprocal}
use Rattle.frac128.specs.Checked.{AreInRange, sum_numbers, product_numbers, SumFits, DifferenceFits, ProductFits, QuotientFits, IsExact, checked, checked_sum, checked_difference, checked_product, checked_quotient}
use Rattle.frac128.specs.declared.number.TooWide.{TooWide}
use Rattle.frac128.proofs.Numbers.{lowest_parts}
use Rattle.frac128.proofs.Fits.{difference_value, quotient_value}

-- ---- lowest terms

-- they are the same number, reduced
pub lowest_terms-is : (f : Fraction) → IsFraction f → IsReduced (lowest_terms f) × SameFraction (lowest_terms f) f
unfolding lowest_terms
lowest_terms-is f p = let h = lowest_parts f.num f.den (gcd_of f.num f.den) p (IsGcdOf-gcd_of f.num f.den) (gcd_of_nonneg f.num f.den) in ((h.1, h.0), sym h.2)

-- reduced fractions that are one number are one
pub reduced_unique : (f g : Fraction) → IsReduced f → IsReduced g → SameFraction f g → f ≡ g
reduced_unique f g p q s = let parts = same_parts f.num f.den g.num g.den p.1 q.1 p.0 q.0 s in λ i. record { num = parts.0 i; den = parts.1 i }

-- a reduced fraction that is this number is it in lowest terms
pub lowest_terms-unique : (f g : Fraction) → IsFraction g → IsReduced f → SameFraction f g → f ≡ lowest_terms g
lowest_terms-unique f g p q s =
    let h = lowest_terms-is g p in
    reduced_unique f (lowest_terms g) q h.0 (SameFraction-trans f g (lowest_terms g) q.0 p h.0.0 s (sym h.1))

-- ---- the test of the numbers

in_range-test : (z : ℤ) → is_in_range z ≡ true ↔ IsInRange z
in_range-test z = (λ h. grind (arith, nat_tests), λ h. grind (arith, nat_tests))

in_range-tests : (zs : List ℤ) → list_all is_in_range zs ≡ true ↔ AreInRange zs
in_range-tests [] = (λ h. tt, λ h. refl)
in_range-tests (z ∷ zs) = both (is_in_range z) refl (in_range-tests zs)
  where
    both : (b : Bool) → is_in_range z ≡ b → list_all is_in_range zs ≡ true ↔ AreInRange zs → (b && list_all is_in_range zs) ≡ true ↔ AreInRange (z ∷ zs)
    both true e rest = (λ h. ((in_range-test z).0 e, rest.0 h), λ h. rest.1 h.1)
    both false e rest = (λ h. absurd (grind arith), λ h. absurd (let k = (in_range-test z).1 h.0 in grind arith))

-- ---- what is answered is exact

-- the answer by the test
abbrev answer : Fraction → Bool → Result Fraction TooWide
answer f b = elim b [ true ↦ Ok (lowest_terms f) | false ↦ Err (record {}) ]

pub checked-exact : (zs : List ℤ) (f : Fraction) → IsFraction f → IsExact (checked zs f) (AreInRange zs) f
checked-exact zs f p = cases (list_all is_in_range zs) refl
  where
    cases : (b : Bool) → list_all is_in_range zs ≡ b → IsExact (answer f b) (AreInRange zs) f
    cases true e = let h = lowest_terms-is f p in ((in_range-tests zs).0 e, h.0, h.1)
    cases false e = λ h. absurd (let k = (in_range-tests zs).1 h in grind arith)

-- and nothing else is
pub checked-is : (zs : List ℤ) (f : Fraction) (r : Result Fraction TooWide) → IsFraction f → IsExact r (AreInRange zs) f → r ≡ checked zs f
checked-is zs f (Ok g) p h = ap Ok (lowest_terms-unique g f p h.1 h.2) ∙ sym (ap (answer f) ((in_range-tests zs).1 h.0))
checked-is zs f (Err e) p n = cases (list_all is_in_range zs) refl
  where
    cases : (b : Bool) → list_all is_in_range zs ≡ b → Err e ≡ answer f b
    cases true k = absurd (n ((in_range-tests zs).0 k))
    cases false k = refl

-- the sum
pub checked_sum-is : (f g : Fraction) (r : Result Fraction TooWide) → IsFraction f → IsFraction g → IsExact r (SumFits f g) (fraction_sum f g)
    → r ≡ checked_sum f g
unfolding checked_sum
checked_sum-is f g r pf pg h = checked-is (sum_numbers (gcd_of f.den g.den) f g) (fraction_sum f g) r (mul_pos f.den g.den pf pg) h

pub checked_sum-exact : (f g : Fraction) → IsFraction f → IsFraction g → IsExact (checked_sum f g) (SumFits f g) (fraction_sum f g)
unfolding checked_sum
checked_sum-exact f g pf pg = checked-exact (sum_numbers (gcd_of f.den g.den) f g) (fraction_sum f g) (mul_pos f.den g.den pf pg)

-- the product
pub checked_product-is : (f g : Fraction) (r : Result Fraction TooWide) → IsFraction f → IsFraction g → IsExact r (ProductFits f g) (fraction_product f g)
    → r ≡ checked_product f g
unfolding checked_product
checked_product-is f g r pf pg h =
    checked-is (product_numbers (gcd_of f.num g.den) (gcd_of g.num f.den) f g) (fraction_product f g) r (mul_pos f.den g.den pf pg) h

pub checked_product-exact : (f g : Fraction) → IsFraction f → IsFraction g → IsExact (checked_product f g) (ProductFits f g) (fraction_product f g)
unfolding checked_product
checked_product-exact f g pf pg =
    checked-exact (product_numbers (gcd_of f.num g.den) (gcd_of g.num f.den) f g) (fraction_product f g) (mul_pos f.den g.den pf pg)

-- ---- differences and quotients

-- the difference is the sum with the opposite
pub sum_with_opposite : (f g h : Fraction) (r : Result Fraction TooWide) → h ≡ opposite g → r ≡ checked_sum f h → r ≡ checked_difference f g
unfolding checked_difference
sum_with_opposite f g h r e s = s ∙ ap (checked_sum f) e

pub exact_difference : (f g : Fraction) (r : Result Fraction TooWide) → IsExact r (DifferenceFits f g) (fraction_sum f (opposite g))
    → IsExact r (DifferenceFits f g) (fraction_difference f g)
exact_difference f g (Ok r) h = (h.0, h.1, difference_value f.num f.den g.num g.den r.num r.den h.2)
exact_difference f g (Err e) h = h

pub checked_difference-exact : (f g : Fraction) → IsFraction f → IsFraction g → IsExact (checked_difference f g) (DifferenceFits f g) (fraction_difference f g)
unfolding checked_difference
checked_difference-exact f g pf pg = exact_difference f g (checked_sum f (opposite g)) (checked_sum-exact f (opposite g) pf pg)

-- the quotient is the product with the reciprocal
pub product_with_reciprocal : (f g h : Fraction) (r : Result Fraction TooWide) → h ≡ reciprocal g.num g.den → r ≡ checked_product f h → r ≡ checked_quotient f g
unfolding checked_quotient
product_with_reciprocal f g h r e s = s ∙ ap (checked_product f) e

pub exact_quotient : (f g : Fraction) (r : Result Fraction TooWide) → IsExact r (QuotientFits f g) (fraction_product f (reciprocal g.num g.den))
    → IsExact r (QuotientFits f g) (fraction_quotient f g)
exact_quotient f g (Ok r) h = (h.0, h.1, quotient_value f.num f.den g.num g.den r.num r.den h.2)
exact_quotient f g (Err e) h = h

-- a fraction other than 0 has a reciprocal
pub reciprocal-den : (g : Fraction) → g.num ≢ pos 0 → IsFraction (reciprocal g.num g.den)
reciprocal-den g n = of_num g.num n
  where
    of_num : (z : ℤ) → z ≢ pos 0 → IsFraction (reciprocal z g.den)
    of_num (pos zero) n = absurd (n refl)
    of_num (pos (suc k)) n = omega (arith, lin)
    of_num (negsuc k) n = omega (arith, lin)

pub checked_quotient-exact : (f g : Fraction) → IsFraction f → g.num ≢ pos 0 → IsExact (checked_quotient f g) (QuotientFits f g) (fraction_quotient f g)
unfolding checked_quotient
checked_quotient-exact f g pf n =
    exact_quotient f g (checked_product f (reciprocal g.num g.den)) (checked_product-exact f (reciprocal g.num g.den) pf (reciprocal-den g n))
