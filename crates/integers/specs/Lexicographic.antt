-- Lexicographic order: the first place that decides.
use Rattle.std.specs.Prelude.{◌≡◌, ◌⊎◌, List, [], ◌∷◌, ℤ, pos, ◌<ℤ◌, ⊤}
use Rattle.integers.specs.Fraction.{Fraction, FractionLess, SameFraction}

-- the first number that is not 0 is positive, and there is one
abbrev pub IsLexPositive : List ℤ → Type 0
IsLexPositive [] = ⊥
IsLexPositive (x ∷ xs) = pos 0 <ℤ x ⊎ (x ≡ pos 0) × IsLexPositive xs

-- at the first place where the numbers differ the first list has the lesser one, or it ends before the second
abbrev pub LexLess : List Fraction → List Fraction → Type 0
LexLess [] [] = ⊥
LexLess [] (g ∷ gs) = ⊤
LexLess (f ∷ fs) [] = ⊥
LexLess (f ∷ fs) (g ∷ gs) = FractionLess f g ⊎ SameFraction f g × LexLess fs gs
