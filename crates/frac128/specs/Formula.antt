-- An example of a formula as a chain of checked steps, for the tests.
use Rattle.std.specs.Prelude.{Result}
use Rattle.integers.specs.Fraction.{Fraction}
use Rattle.frac128.specs.Chain.{◌>>=◌}
use Rattle.frac128.specs.Checked.{checked_difference, checked_product}
use Rattle.frac128.specs.declared.number.TooWide.{TooWide}

-- a*d - b*c
unfoldable pub determinant_of : Fraction → Fraction → Fraction → Fraction → Result Fraction TooWide
determinant_of a b c d = do
  x ← checked_product a d
  y ← checked_product b c
  checked_difference x y
