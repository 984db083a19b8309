-- The score of an option: the sum over the criteria of weight times value (the additive model of the method).
use Rattle.std.specs.Prelude.{List, [], ◌∷◌, ℤ, pos, ◌*ℤ◌, Result, Ok}
use Rattle.integers.specs.Fraction.{Fraction, SameFraction, IsWriting, fraction_of}
use Rattle.integers.specs.Vector.{dot}
use Rattle.frac128.specs.Chain.{◌>>=◌}
use Rattle.frac128.specs.Checked.{checked_sum, checked_product}
use Rattle.frac128.specs.declared.number.TooWide.{TooWide}

-- s and then each weight times its value, added one after another
unfoldable pub checked_score_from : Fraction → List Fraction → List Fraction → Result Fraction TooWide
checked_score_from s [] values = Ok s
checked_score_from s (k ∷ weights) [] = Ok s
checked_score_from s (k ∷ weights) (v ∷ values) = do
  part ← checked_product k v
  sum ← checked_sum s part
  checked_score_from sum weights values

-- the same from 0 on
abbrev pub checked_score : List Fraction → List Fraction → Result Fraction TooWide
checked_score weights values = checked_score_from (fraction_of (pos 0)) weights values

-- the fraction is the sum of the weights times the values, however these are written
abbrev pub IsScore : List Fraction → List Fraction → Fraction → Type 0
IsScore weights values score = (k : List ℤ) (d : ℤ) (v : List ℤ) (n : ℤ) → IsWriting weights k d → IsWriting values v n
    → SameFraction score (record { num = dot k v; den = d *ℤ n })
