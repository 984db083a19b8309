-- Fractions in lowest terms.
use Rattle.std.specs.Prelude.{suc, ℤ, pos, negsuc, neg_ℤ, ◌<ℤ◌, int_div}
use Rattle.integers.specs.Divisibility.{IsLowest, gcd_of}
use Rattle.integers.specs.Fraction.{Fraction}

-- in lowest terms, with a positive denominator
abbrev pub IsReduced : Fraction → Type 0
IsReduced f = (pos 0 <ℤ f.den) × IsLowest f.num f.den

-- both parts divided by their greatest common divisor
unfoldable pub lowest_terms : Fraction → Fraction
lowest_terms f = record { num = int_div f.num (gcd_of f.num f.den); den = int_div f.den (gcd_of f.num f.den) }

-- the fraction with the other sign
abbrev pub opposite : Fraction → Fraction
opposite f = record { num = neg_ℤ f.num; den = f.den }

-- den/num, with the sign in the numerator
abbrev pub reciprocal : ℤ → ℤ → Fraction
reciprocal (pos n) den = record { num = den; den = pos n }
reciprocal (negsuc n) den = record { num = neg_ℤ den; den = pos (suc n) }
