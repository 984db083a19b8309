-- What the steps of reading a fraction answer.
use Rattle.frac128.specs.Text.{WritesUnsigned, Writes, WritesNone, IsTooWide}
use Rattle.frac128.specs.Range.{IsInRange}
use Rattle.frac128.specs.declared.reading.FracFault.{FracFault}
use Rattle.frac128.specs.declared.reading.FracFault.TheVariants.{BadNumber, TooWide}
use Rattle.std.specs.Prelude.{◌≡◌, ◌<◌, ◌^◌, ℕ, List, codes, get_or, ℤ, pos}
use Rattle.std.specs.Str.Parse.{IsNumeral, digits_value}

-- the character before the second number
abbrev pub slash : ℕ
slash = get_or (codes "/") 0 0

-- the text is digits alone, and writes the number, which is in the range
abbrev pub WritesNumber : List ℕ → ℤ → Type 0
WritesNumber text number = IsNumeral 10 text × (digits_value 10 text < 2 ^ 127) × (number ≡ pos (digits_value 10 text))

-- why the text gives no number
abbrev pub IsNumberFault : List ℕ → FracFault → Type 0
IsNumberFault text BadNumber = ¬ (IsNumeral 10 text)
IsNumberFault text TooWide = IsNumeral 10 text × ¬ (digits_value 10 text < 2 ^ 127)

-- the two texts write the two numbers, and the second is not 0
abbrev pub WriteQuotient : List ℕ → List ℕ → ℤ → ℤ → Type 0
WriteQuotient top bottom num den = WritesNumber top num × WritesNumber bottom den × (0 < digits_value 10 bottom)

-- the two texts are digits, of a number other than 0 in the second
abbrev pub AreSizes : List ℕ → List ℕ → Type 0
AreSizes top bottom = IsNumeral 10 top × IsNumeral 10 bottom × (0 < digits_value 10 bottom)

-- why the two texts give no two numbers
abbrev pub IsQuotientFault : List ℕ → List ℕ → FracFault → Type 0
IsQuotientFault top bottom BadNumber = ¬ (AreSizes top bottom)
IsQuotientFault top bottom TooWide =
    AreSizes top bottom × ¬ ((digits_value 10 top < 2 ^ 127) × (digits_value 10 bottom < 2 ^ 127))

-- the text writes the two numbers, which are in the range
pub record WritesSizes (text : List ℕ) (num den : ℤ) : Type 0 where
  pub num_size : ℕ
  pub den_size : ℕ
  pub unsigned : WritesUnsigned text num_size den_size
  pub num_fits : num_size < 2 ^ 127
  pub den_fits : den_size < 2 ^ 127
  pub num_is : num ≡ pos num_size
  pub den_is : den ≡ pos den_size

-- the text writes two numbers that are not both in the range
pub record WritesWide (text : List ℕ) : Type 0 where
  pub num_size : ℕ
  pub den_size : ℕ
  pub unsigned : WritesUnsigned text num_size den_size
  pub wide : ¬ ((num_size < 2 ^ 127) × (den_size < 2 ^ 127))

-- why the text gives no two numbers
abbrev pub IsSizesFault : List ℕ → FracFault → Type 0
IsSizesFault text BadNumber = (num den : ℕ) → ¬ (WritesUnsigned text num den)
IsSizesFault text TooWide = WritesWide text

-- the bytes write the two numbers, which are in the range
pub record WritesSigned (bytes : List ℕ) (num den : ℤ) : Type 0 where
  pub size : ℕ
  pub written : Writes bytes num size
  pub den_is : den ≡ pos size
  pub positive : 0 < size
  pub num_fits : IsInRange num
  pub den_fits : size < 2 ^ 127

-- why the bytes give no fraction
abbrev pub IsReadingFault : List ℕ → FracFault → Type 0
IsReadingFault bytes BadNumber = WritesNone bytes
IsReadingFault bytes TooWide = IsTooWide bytes
