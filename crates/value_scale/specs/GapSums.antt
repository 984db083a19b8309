-- The values of a scale from its gaps, the bottom one first: each value is worked by one sum, from the bottom upwards.
use Rattle.std.specs.Prelude.{List, [], ◌∷◌, ℤ, pos, reverse, Result, Ok}
use Rattle.integers.specs.Fraction.{Fraction, SameFractions, IsWriting, over, fraction_of}
use Rattle.frac128.specs.Chain.{◌>>=◌}
use Rattle.frac128.specs.Checked.{checked_sum}
use Rattle.frac128.specs.declared.number.TooWide.{TooWide}
use Rattle.lp_macbeth.specs.Gaps.{scale_of}

-- the values are the scale that the gaps make, however both are written
abbrev pub AreScaleOf : List Fraction → List Fraction → Type 0
AreScaleOf gaps values = (x : List ℤ) (n : ℤ) (w : List ℤ) (k : ℤ) → IsWriting gaps x n → IsWriting values w k
    → SameFractions (over w k) (over (scale_of x) n)

-- ---- how it is worked

-- how high the elements stand above the bottom one, without it: each by its gap above the one below it, which stands at a
unfoldable pub checked_heights : Fraction → List Fraction → Result (List Fraction) TooWide
checked_heights a [] = Ok []
checked_heights a (gap ∷ gaps) = do
  height ← checked_sum a gap
  above ← checked_heights height gaps
  Ok (height ∷ above)

-- all elements from the bottom one upwards, which stands at 0
unfoldable pub checked_column : List Fraction → Result (List Fraction) TooWide
checked_column gaps = do
  above ← checked_heights (fraction_of (pos 0)) gaps
  Ok (fraction_of (pos 0) ∷ above)

-- the values of the scale that the gaps make, the first element's first
unfoldable pub checked_values : List Fraction → Result (List Fraction) TooWide
checked_values gaps = do
  column ← checked_column gaps
  Ok (reverse column)
