-- Fractions of whole numbers, one at a time and as lists.
use Rattle.std.specs.Prelude.{◌≡◌, List, [], ◌∷◌, ℤ, pos, ◌+ℤ◌, ◌-ℤ◌, ◌*ℤ◌, ◌≤ℤ◌, ◌<ℤ◌, All, ⊤}
use Rattle.integers.specs.Vector.{scale}

-- a numerator and a denominator
pub record Fraction : Type 0 where
  pub num : ℤ
  pub den : ℤ

-- the denominator is positive, as it is wherever fractions are compared
abbrev pub IsFraction : Fraction → Type 0
IsFraction f = pos 0 <ℤ f.den

-- the two fractions are one number
abbrev pub SameFraction : Fraction → Fraction → Type 0
SameFraction f g = f.num *ℤ g.den ≡ g.num *ℤ f.den

-- the first fraction is below the second
abbrev pub FractionLess : Fraction → Fraction → Type 0
FractionLess f g = (f.num *ℤ g.den) <ℤ (g.num *ℤ f.den)

-- the first fraction is at most the second
abbrev pub FractionAtMost : Fraction → Fraction → Type 0
FractionAtMost f g = (f.num *ℤ g.den) ≤ℤ (g.num *ℤ f.den)

-- a whole number as a fraction
abbrev pub fraction_of : ℤ → Fraction
fraction_of z = record { num = z; den = pos 1 }

-- ---- sums, differences, products and quotients

-- a/b + c/d
abbrev pub fraction_sum : Fraction → Fraction → Fraction
fraction_sum f g = record { num = f.num *ℤ g.den +ℤ g.num *ℤ f.den; den = f.den *ℤ g.den }

-- a/b - c/d
abbrev pub fraction_difference : Fraction → Fraction → Fraction
fraction_difference f g = record { num = f.num *ℤ g.den -ℤ g.num *ℤ f.den; den = f.den *ℤ g.den }

-- a/b * c/d
abbrev pub fraction_product : Fraction → Fraction → Fraction
fraction_product f g = record { num = f.num *ℤ g.num; den = f.den *ℤ g.den }

-- (a/b) / (c/d)
abbrev pub fraction_quotient : Fraction → Fraction → Fraction
fraction_quotient f g = record { num = f.num *ℤ g.den; den = f.den *ℤ g.num }

-- ---- lists

-- each denominator is positive
abbrev pub AreFractions : List Fraction → Type 0
AreFractions fs = All IsFraction fs

-- the numbers over one denominator
abbrev pub over : List ℤ → ℤ → List Fraction
over [] d = []
over (x ∷ xs) d = record { num = x; den = d } ∷ over xs d

-- as many in both lists, each the same number as the one at its place
abbrev pub SameFractions : List Fraction → List Fraction → Type 0
SameFractions [] [] = ⊤
SameFractions [] (g ∷ gs) = ⊥
SameFractions (f ∷ fs) [] = ⊥
SameFractions (f ∷ fs) (g ∷ gs) = SameFraction f g × SameFractions fs gs

-- ---- lists as whole numbers over one denominator

-- the numbers w over n are these fractions
pub record IsWriting (fs : List Fraction) (w : List ℤ) (n : ℤ) : Type 0 where
  pub den_pos : pos 0 <ℤ n
  pub same : SameFractions (over w n) fs

-- the product of the denominators
abbrev pub common_den : List Fraction → ℤ
common_den [] = pos 1
common_den (f ∷ fs) = f.den *ℤ common_den fs

-- the numerators over that
abbrev pub common_nums : List Fraction → List ℤ
common_nums [] = []
common_nums (f ∷ fs) = (f.num *ℤ common_den fs) ∷ scale f.den (common_nums fs)

-- ---- sums of lists

-- the sum of the fractions
abbrev pub sum_of_fractions : List Fraction → Fraction
sum_of_fractions [] = fraction_of (pos 0)
sum_of_fractions (f ∷ fs) = fraction_sum f (sum_of_fractions fs)

-- a first fraction and then one more at each step: the sums, without the first
abbrev pub running_fraction_sums : Fraction → List Fraction → List Fraction
running_fraction_sums a [] = []
running_fraction_sums a (f ∷ fs) = fraction_sum a f ∷ running_fraction_sums (fraction_sum a f) fs
