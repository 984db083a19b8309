-- Arithmetic of fractions that refuses numbers out of the range: what each call forms, and what it answers.
-- A formula is a chain of these, as `do x ← checked_sum f g; checked_product x h`.
use Rattle.std.specs.Prelude.{true, false, List, [], ◌∷◌, ℤ, ◌+ℤ◌, ◌*ℤ◌, int_div, Result, Ok, Err, MatchResult, IsTrue}
use Rattle.std.specs.List.{list_all, AllByRecursion}
use Rattle.std.specs.Result.{is_err}
use Rattle.integers.specs.Divisibility.{gcd_of}
use Rattle.integers.specs.Fraction.{Fraction, SameFraction, fraction_sum, fraction_product}
use Rattle.frac128.specs.Chain.{Returns}
pub use Rattle.frac128.specs.Chain.{◌>>=◌}
use Rattle.frac128.specs.Frac.{IsReduced, lowest_terms, opposite, reciprocal}
use Rattle.frac128.specs.Range.{IsInRange, is_in_range}
use Rattle.frac128.specs.declared.number.TooWide.{TooWide}

-- ---- the numbers that a call forms

-- for a/b + c/d and a common divisor k of b and d: a*(d/k), c*(b/k), their sum and b*(d/k)
abbrev pub sum_numbers : ℤ → Fraction → Fraction → List ℤ
sum_numbers k f g =
    (f.num *ℤ int_div g.den k)
    ∷ (g.num *ℤ int_div f.den k)
    ∷ (f.num *ℤ int_div g.den k +ℤ g.num *ℤ int_div f.den k)
    ∷ (f.den *ℤ int_div g.den k)
    ∷ []

-- for a/b * c/d, a common divisor k of a and d, and l of c and b: (a/k)*(c/l) and (b/l)*(d/k)
abbrev pub product_numbers : ℤ → ℤ → Fraction → Fraction → List ℤ
product_numbers k l f g =
    (int_div f.num k *ℤ int_div g.num l)
    ∷ (int_div f.den l *ℤ int_div g.den k)
    ∷ []

-- each number is in the range
abbrev pub AreInRange : List ℤ → Type 0
AreInRange zs = AllByRecursion IsInRange zs

-- so are those of a sum, with the greatest common divisor of the denominators
abbrev pub SumFits : Fraction → Fraction → Type 0
SumFits f g = AreInRange (sum_numbers (gcd_of f.den g.den) f g)

-- those of a difference, which is the sum with the opposite
abbrev pub DifferenceFits : Fraction → Fraction → Type 0
DifferenceFits f g = SumFits f (opposite g)

-- those of a product, with the greatest common divisors crosswise
abbrev pub ProductFits : Fraction → Fraction → Type 0
ProductFits f g = AreInRange (product_numbers (gcd_of f.num g.den) (gcd_of g.num f.den) f g)

-- those of a quotient, which is the product with the reciprocal
abbrev pub QuotientFits : Fraction → Fraction → Type 0
QuotientFits f g = ProductFits f (reciprocal g.num g.den)

-- a fraction in lowest terms that is the value, exactly where it fits
abbrev pub IsExact : Result Fraction TooWide → Type 0 → Fraction → Type 0
IsExact result Fits value = MatchResult result (λ f. Fits × IsReduced f × SameFraction f value) (λ e. ¬ Fits)

-- ---- the answers

-- the fraction in lowest terms, where each of the numbers is in the range
abbrev pub checked : List ℤ → Fraction → Result Fraction TooWide
checked numbers f = elim (list_all is_in_range numbers) [ true ↦ Ok (lowest_terms f) | false ↦ Err (record {}) ]

-- a/b + c/d
unfoldable pub checked_sum : Fraction → Fraction → Result Fraction TooWide
checked_sum f g = checked (sum_numbers (gcd_of f.den g.den) f g) (fraction_sum f g)

-- a/b - c/d
unfoldable pub checked_difference : Fraction → Fraction → Result Fraction TooWide
checked_difference f g = checked_sum f (opposite g)

-- a/b * c/d
unfoldable pub checked_product : Fraction → Fraction → Result Fraction TooWide
checked_product f g = checked (product_numbers (gcd_of f.num g.den) (gcd_of g.num f.den) f g) (fraction_product f g)

-- (a/b) / (c/d), which means something where c isn't 0
unfoldable pub checked_quotient : Fraction → Fraction → Result Fraction TooWide
checked_quotient f g = checked_product f (reciprocal g.num g.den)

-- ---- what a call answers for a formula

-- what the formula gives is answered, as it is seen, or a fault, which says something of whether the formula is too wide
abbrev pub Gives : {V X E : Type 0} → (E → Type 0 → Type 0) → (V → X) → Result X TooWide → Result V E → Type 0
Gives Says items worked result = Returns (λ fault formula. Says fault (IsTrue (is_err formula))) items worked result
