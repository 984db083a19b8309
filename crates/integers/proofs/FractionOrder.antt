-- The order of fractions: chains of "at most", "below" and "the same number", and each by the sign of a difference.
use Rattle.std.proofs.Common.{◌≡◌, ◌↔◌, pos, ◌*ℤ◌, ◌≤ℤ◌, arith}
use Rattle.integers.specs.Fraction.{Fraction, IsFraction, SameFraction, FractionLess, FractionAtMost, fraction_difference}
use Rattle.integers.proofs.Laws.{lin}
use Rattle.integers.proofs.Order.{le_of_lt, fraction_le_le, fraction_le_eq, fraction_eq_le}

-- ---- chains

-- each fraction is at most itself
pub FractionAtMost-refl : (f : Fraction) → FractionAtMost f f
FractionAtMost-refl f = omega (arith, lin)

-- at most, and at most again
pub FractionAtMost-trans : (f g h : Fraction) → IsFraction f → IsFraction g → IsFraction h → FractionAtMost f g → FractionAtMost g h → FractionAtMost f h
FractionAtMost-trans f g h pf pg ph s t = fraction_le_le f.num f.den g.num g.den h.num h.den pf pg ph s t

-- the same number may stand on the left
pub FractionAtMost-same_left : (f g h : Fraction) → IsFraction f → IsFraction g → IsFraction h → SameFraction f g → FractionAtMost g h → FractionAtMost f h
FractionAtMost-same_left f g h pf pg ph s t = fraction_eq_le f.num f.den g.num g.den h.num h.den pf pg ph s t

-- the same number may stand on the right
pub FractionAtMost-same_right : (f g h : Fraction) → IsFraction f → IsFraction g → IsFraction h → FractionAtMost f g → SameFraction g h → FractionAtMost f h
FractionAtMost-same_right f g h pf pg ph s t = fraction_le_eq f.num f.den g.num g.den h.num h.den pf pg ph s t

-- below is at most
pub FractionAtMost-from_less : (f g : Fraction) → FractionLess f g → FractionAtMost f g
FractionAtMost-from_less f g h = le_of_lt (f.num *ℤ g.den) (g.num *ℤ f.den) h

-- the same number is at most
pub FractionAtMost-from_same : (f g : Fraction) → SameFraction f g → FractionAtMost f g
FractionAtMost-from_same f g h = let e : f.num *ℤ g.den ≡ g.num *ℤ f.den = h in omega (arith, lin)

-- ---- by the sign of a difference

-- at most: the difference is not negative
pub FractionAtMost-difference : (f g : Fraction) → FractionAtMost f g ↔ pos 0 ≤ℤ (fraction_difference g f).num
FractionAtMost-difference f g = (λ h. omega (arith, lin), λ h. omega (arith, lin))
