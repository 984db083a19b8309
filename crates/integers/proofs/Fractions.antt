-- Fractions as records and as lists: the same number in two writings, and order that does not see the writing.
use lib.IntN.{*ℤ_comm}
use Rattle.std.specs.Int.Signed.{<ℤ_irrefl}
use Rattle.std.proofs.lemmas.List.Elements.{All-nil, All-cons, All-head, All-tail}
use Rattle.std.proofs.Common.{◌≡◌, ◌↔◌, suc, length, List, [], ◌∷◌, ℤ, pos, ◌*ℤ◌, ◌<ℤ◌, refl, sym, ap, ap₂, ◌∙◌}
use mathlib.Core.List.{cons≢nil, head-eq_of_cons-eq, tail-eq_of_cons-eq}
use Rattle.integers.specs.Fraction.{Fraction, IsFraction, SameFraction, FractionLess, AreFractions, over, SameFractions}
use Rattle.integers.specs.Vector.{scale}
use Rattle.integers.proofs.Ring.{◌⊗◌, ◌≗◌, ring3}
use Rattle.integers.proofs.Order.{fraction_eq_eq, fraction_eq_lt, fraction_lt_eq, fraction_lt_lt}

-- ---- two fractions

-- a fraction is the number that it is
pub SameFraction-refl : (f : Fraction) → SameFraction f f
SameFraction-refl f = refl

-- the same number, the other way
pub SameFraction-sym : (f g : Fraction) → SameFraction f g → SameFraction g f
SameFraction-sym f g h = sym h

-- the same number, and the same again
pub SameFraction-trans : (f g h : Fraction) → IsFraction f → IsFraction g → IsFraction h → SameFraction f g → SameFraction g h → SameFraction f h
SameFraction-trans f g h pf pg ph s t = fraction_eq_eq f.num f.den g.num g.den h.num h.den pf pg ph s t

-- no fraction is below itself
pub IsBelow_irrefl : (f : Fraction) → ¬ FractionLess f f
IsBelow_irrefl f h = <ℤ_irrefl h

-- below, and below again
pub FractionLess-trans : (f g h : Fraction) → IsFraction f → IsFraction g → IsFraction h → FractionLess f g → FractionLess g h → FractionLess f h
FractionLess-trans f g h pf pg ph s t = fraction_lt_lt f.num f.den g.num g.den h.num h.den pf pg ph s t

-- the same number may stand on the left, and on the right
pub FractionLess-same_left : (f g h : Fraction) → IsFraction f → IsFraction g → IsFraction h → SameFraction f g → FractionLess g h → FractionLess f h
FractionLess-same_left f g h pf pg ph s t = fraction_eq_lt f.num f.den g.num g.den h.num h.den pf pg ph s t

-- the same number may stand on the right
pub FractionLess-same_right : (f g h : Fraction) → IsFraction f → IsFraction g → IsFraction h → FractionLess f g → SameFraction g h → FractionLess f h
FractionLess-same_right f g h pf pg ph s t = fraction_lt_eq f.num f.den g.num g.den h.num h.den pf pg ph s t

-- ---- lists of fractions

-- a list names the fractions that it names
pub SameFractions-refl : (fs : List Fraction) → SameFractions fs fs
SameFractions-refl [] = tt
SameFractions-refl (f ∷ fs) = (refl, SameFractions-refl fs)

-- the same fractions, the other way
pub SameFractions-sym : (fs gs : List Fraction) → SameFractions fs gs → SameFractions gs fs
SameFractions-sym [] [] h = tt
SameFractions-sym [] (g ∷ gs) h = absurd h
SameFractions-sym (f ∷ fs) [] h = absurd h
SameFractions-sym (f ∷ fs) (g ∷ gs) h = (sym h.0, SameFractions-sym fs gs h.1)

-- the same fractions, and the same again
pub SameFractions-trans : (fs gs hs : List Fraction) → AreFractions fs → AreFractions gs → AreFractions hs → SameFractions fs gs → SameFractions gs hs
    → SameFractions fs hs
SameFractions-trans [] [] hs pf pg ph s t = t
SameFractions-trans [] (g ∷ gs) hs pf pg ph s t = absurd s
SameFractions-trans (f ∷ fs) [] hs pf pg ph s t = absurd s
SameFractions-trans (f ∷ fs) (g ∷ gs) [] pf pg ph s t = absurd t
SameFractions-trans (f ∷ fs) (g ∷ gs) (h ∷ hs) pf pg ph s t = (
  SameFraction-trans f g h (All-head IsFraction f fs pf) (All-head IsFraction g gs pg) (All-head IsFraction h hs ph) s.0 t.0,
  SameFractions-trans fs gs hs
      (All-tail IsFraction f fs pf) (All-tail IsFraction g gs pg) (All-tail IsFraction h hs ph) s.1 t.1,
)

-- the same fractions are as many
pub SameFractions-length : (fs gs : List Fraction) → SameFractions fs gs → length fs ≡ length gs
SameFractions-length [] [] h = refl
SameFractions-length [] (g ∷ gs) h = absurd h
SameFractions-length (f ∷ fs) [] h = absurd h
SameFractions-length (f ∷ fs) (g ∷ gs) h = ap suc (SameFractions-length fs gs h.1)

-- ---- numbers over one denominator

-- as many fractions as numbers
pub length-over : (xs : List ℤ) (d : ℤ) → length (over xs d) ≡ length xs
length-over [] d = refl
length-over (x ∷ xs) d = ap suc (length-over xs d)

-- over a positive denominator
pub AreFractions-over : (xs : List ℤ) (d : ℤ) → pos 0 <ℤ d → AreFractions (over xs d)
AreFractions-over [] d p = All-nil IsFraction
AreFractions-over (x ∷ xs) d p = All-cons IsFraction (record { num = x; den = d }) (over xs d) p (AreFractions-over xs d p)

-- two writings over one denominator each name the same list exactly where the cross multiples are one list
pub SameFractions-over : (xs ys : List ℤ) (d e : ℤ) → SameFractions (over xs d) (over ys e) ↔ (scale e xs ≡ scale d ys)
SameFractions-over xs ys d e = (to xs ys, from xs ys)
  where
    to : (xs ys : List ℤ) → SameFractions (over xs d) (over ys e) → scale e xs ≡ scale d ys
    to [] [] h = refl
    to [] (y ∷ ys) h = absurd h
    to (x ∷ xs) [] h = absurd h
    to (x ∷ xs) (y ∷ ys) h = ap₂ (λ a b. a ∷ b) (*ℤ_comm e x ∙ h.0 ∙ *ℤ_comm y d) (to xs ys h.1)

    from : (xs ys : List ℤ) → scale e xs ≡ scale d ys → SameFractions (over xs d) (over ys e)
    from [] [] h = tt
    from [] (y ∷ ys) h = absurd (cons≢nil (sym h))
    from (x ∷ xs) [] h = absurd (cons≢nil h)
    from (x ∷ xs) (y ∷ ys) h = (*ℤ_comm x e ∙ head-eq_of_cons-eq h ∙ *ℤ_comm d y, from xs ys (tail-eq_of_cons-eq h))

-- a multiple of the numbers and of the denominator names the same list
pub SameFractions-over_scale : (c : ℤ) (xs : List ℤ) (d : ℤ) → SameFractions (over xs d) (over (scale c xs) (c *ℤ d))
SameFractions-over_scale c [] d = tt
SameFractions-over_scale c (x ∷ xs) d = (ring3 (λ c x d. x ⊗ (c ⊗ d) ≗ c ⊗ x ⊗ d) refl c x d, SameFractions-over_scale c xs d)
