-- Fractions rounded to decimal places.
use Rattle.integers.specs.Fraction.{Fraction}
use Rattle.std.specs.Fmt.{decimal}
use Rattle.std.specs.Prelude.{◌≡◌, ◌≤◌, ◌*◌, ◌/◌, ◌%◌, ◌^◌, ◌+◌, ◌<◌, ℕ, List, [], ◌++◌, codes, ℤ, Bool, ◌&&◌, if◌then◌else◌, replicate, ◌-◌, pos, negsuc, ◌*ℤ◌, ◌-ℤ◌, length, unsigned_abs, int_lt, nat_lt}
use Rattle.std.specs.Str.Parse.{AllDigits, digits_value}

-- k is the whole number nearest to scale times the fraction, and of two such numbers the one farther from 0
pub record IsNearest (scale : ℕ) (f : Fraction) (k : ℤ) : Type 0 where
  pub near : 2 * unsigned_abs (pos scale *ℤ f.num -ℤ k *ℤ f.den) ≤ unsigned_abs f.den
  pub away : 2 * unsigned_abs (pos scale *ℤ f.num -ℤ k *ℤ f.den) ≡ unsigned_abs f.den
      → scale * unsigned_abs f.num ≤ unsigned_abs k * unsigned_abs f.den

-- `-` below 0
abbrev pub sign_text : ℤ → List ℕ
sign_text (pos n) = []
sign_text (negsuc n) = codes "-"

-- the text is a sign, digits, `.` and so many digits, which without the `.` write the fraction rounded to them
pub record IsDecimal (f : Fraction) (places : ℕ) (text : List ℕ) : Type 0 where
  pub rounded : ℤ
  pub whole : ℕ
  pub tail : List ℕ
  pub nearest : IsNearest (10 ^ places) f rounded
  pub parts : text ≡ sign_text rounded ++ (decimal whole ++ (codes "." ++ tail))
  pub tail_digits : AllDigits 10 tail
  pub tail_length : length tail ≡ places
  pub size_is : unsigned_abs rounded ≡ whole * 10 ^ places + digits_value 10 tail

-- m is x / den rounded to a whole number, half up
abbrev pub IsHalfUp : ℕ → ℕ → ℕ → Type 0
IsHalfUp x den m = (2 * (m * den) ≤ 2 * x + den) × (2 * x < 2 * (m * den) + den)

-- so many digits of a number, with zeros before them
abbrev pub padded_digits : ℕ → ℕ → List ℕ
padded_digits places part = replicate (places - length (decimal part)) 48 ++ decimal part

-- `-` where asked, the whole part, `.` and so many digits
abbrev pub pointed_text : Bool → ℕ → ℕ → ℕ → List ℕ
pointed_text minus whole part places =
    (if minus then codes "-" else []) ++ (decimal whole ++ (codes "." ++ padded_digits places part))

-- that number
abbrev pub half_up : ℕ → ℕ → ℕ
half_up x den = (2 * x + den) / (2 * den)

-- the size of a fraction with so many digits behind the point, as the whole number of all its digits
abbrev pub rounded_size : Fraction → ℕ → ℕ
rounded_size f places = half_up (10 ^ places * unsigned_abs f.num) (unsigned_abs f.den)

-- a fraction rounded to so many places, half away from 0; `-` only where a digit isn't 0
abbrev pub decimal_text : Fraction → ℕ → List ℕ
decimal_text f places =
    let size = rounded_size f places in
    pointed_text (int_lt f.num (pos 0) && nat_lt 0 size) (size / 10 ^ places) (size % 10 ^ places) places
