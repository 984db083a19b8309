-- Digits as a test, and their value byte by byte.
use Rattle.std.proofs.Common.{◌≡◌, ◌≢◌, ℕ, ◌+◌, ◌*◌, ◌-◌, ◌<◌, ◌≤◌, List, [], ◌∷◌, true, ◌&&◌, length, get_or, take, refl, ap, sym, ◌∙◌, arith}
use Rattle.std.proofs.lemmas.Int.Digits.{digits_value_more}
use Rattle.std.proofs.lemmas.Str.{digit_value_digit}
use Rattle.std.proofs.lemmas.Str.Parse.{numerals_by_value, tells_all_ascii_digits, digits_value-take-le, digit_at}
use Rattle.std.specs.Char.{is_ascii_digit}
use Rattle.std.specs.List.{list_all}
use Rattle.std.specs.Str.{all_ascii_digits}
use Rattle.std.specs.Str.Parse.{AllDigits, digits_value}

-- the test of each byte is std's
list_all_digits : (ds : List ℕ) → list_all is_ascii_digit ds ≡ all_ascii_digits ds
list_all_digits [] = refl
list_all_digits (c ∷ cs) = ap (λ b. is_ascii_digit c && b) (list_all_digits cs)

-- the test in both directions
pub AllDigits-from_test : (ds : List ℕ) → list_all is_ascii_digit ds ≡ true → AllDigits 10 ds
AllDigits-from_test ds e = (numerals_by_value _ tells_all_ascii_digits).to ds (sym (list_all_digits ds) ∙ e)

pub test-from_AllDigits : (ds : List ℕ) → AllDigits 10 ds → list_all is_ascii_digit ds ≡ true
test-from_AllDigits ds d = list_all_digits ds ∙ (numerals_by_value _ tells_all_ascii_digits).from ds d

-- no digit is another byte
pub no_other_digit : (ds : List ℕ) (k b : ℕ) → AllDigits 10 ds → k < length ds → b < 48 → get_or ds k 0 ≢ b
no_other_digit ds k b d l low e = omega (arith, digit_at ds k d l)

-- a byte among digits
pub digit_bounds : (ds : List ℕ) (i : ℕ) → AllDigits 10 ds → i < length ds → (48 ≤ get_or ds i 0) × (get_or ds i 0 ≤ 57)
digit_bounds ds i d l = let h = digit_at ds i d l in (omega arith, omega arith)

-- one more digit
pub value_more : (ds : List ℕ) (i : ℕ) → AllDigits 10 ds → i < length ds
    → digits_value 10 (take (i + 1) ds) ≡ digits_value 10 (take i ds) * 10 + (get_or ds i 0 - 48)
value_more ds i d l = omega (arith, digits_value_more 10 ds i l, digit_value_digit (get_or ds i 0) (digit_at ds i d l))

-- the first digits write no more than all
pub value_front : (ds : List ℕ) (i : ℕ) → digits_value 10 (take i ds) ≤ digits_value 10 ds
value_front ds i = digits_value-take-le 10 ds i (omega arith)
