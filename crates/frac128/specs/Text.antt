-- Fractions as text: `-`, digits, `/`, digits.
use Rattle.frac128.specs.Frac.{IsReduced}
use Rattle.frac128.specs.Range.{IsInRange}
use Rattle.integers.specs.Fraction.{Fraction, SameFraction}
use Rattle.std.specs.Fmt.{decimal, signed_decimal}
use Rattle.std.specs.Prelude.{◌≡◌, ◌<◌, ◌==◌, ◌⊎◌, ℕ, List, [], ◌++◌, codes, ℤ, pos, neg_ℤ, unsigned_abs, if◌then◌else◌}
use Rattle.std.specs.Str.Parse.{IsNumeral, digits_value}

-- digits, `/` and digits whose number is not 0: these are the two numbers
pub record WritesQuotient (text : List ℕ) (num den : ℕ) : Type 0 where
  pub top : List ℕ
  pub bottom : List ℕ
  pub parts : text ≡ top ++ (codes "/" ++ bottom)
  pub top_digits : IsNumeral 10 top
  pub bottom_digits : IsNumeral 10 bottom
  pub num_is : num ≡ digits_value 10 top
  pub den_is : den ≡ digits_value 10 bottom
  pub den_positive : 0 < den

-- digits alone, over 1, or a quotient
abbrev pub WritesUnsigned : List ℕ → ℕ → ℕ → Type 0
WritesUnsigned text num den =
    (IsNumeral 10 text × (num ≡ digits_value 10 text) × (den ≡ 1)) ⊎ WritesQuotient text num den

-- `-` and an unsigned fraction
pub record WritesNegative (bytes : List ℕ) (num : ℤ) (den : ℕ) : Type 0 where
  pub rest : List ℕ
  pub size : ℕ
  pub parts : bytes ≡ codes "-" ++ rest
  pub unsigned : WritesUnsigned rest size den
  pub num_is : num ≡ neg_ℤ (pos size)

-- an unsigned fraction
pub record WritesPlain (bytes : List ℕ) (num : ℤ) (den : ℕ) : Type 0 where
  pub size : ℕ
  pub unsigned : WritesUnsigned bytes size den
  pub num_is : num ≡ pos size

-- the bytes are a fraction as written, with these two numbers
abbrev pub Writes : List ℕ → ℤ → ℕ → Type 0
Writes bytes num den = WritesPlain bytes num den ⊎ WritesNegative bytes num den

-- the bytes write two numbers of which the fact holds
abbrev pub WritesSome : List ℕ → (ℤ → ℤ → Type 0) → Type 0
WritesSome bytes P = (num : ℤ) × ((den : ℕ) × Writes bytes num den × P num (pos den))

-- the bytes write no fraction
abbrev pub WritesNone : List ℕ → Type 0
WritesNone bytes = (num : ℤ) (den : ℕ) → ¬ (Writes bytes num den)

-- the bytes write two numbers in the range, and f is their quotient in lowest terms
abbrev pub IsReading : List ℕ → Fraction → Type 0
IsReading bytes f =
    IsReduced f
    × WritesSome bytes (λ num den. IsInRange num × IsInRange den × SameFraction f (record { num = num; den = den }))

-- the bytes write two numbers, and not both are in the range
abbrev pub IsTooWide : List ℕ → Type 0
IsTooWide bytes = WritesSome bytes (λ num den. ¬ (IsInRange num × IsInRange den))

-- the numerator, and `/` and the denominator where that is not 1
abbrev pub frac_text : Fraction → List ℕ
frac_text f = signed_decimal f.num
    ++ (if unsigned_abs f.den == 1 then [] else codes "/" ++ decimal (unsigned_abs f.den))
