-- Digits are text, and what they write.
use Rattle.std.proofs.Common.{◌≡◌, ℕ, ◌<◌, ◌≤◌, ◌^◌, Bool, true, false, ◌&&◌, List, [], ◌∷◌, length, Result, Ok, Err, Option, Some, None, refl, arith}
use Rattle.std.specs.Prelude.{OkIff, SomeIff, MatchResult, nat_lt}
use Rattle.std.specs.Result.{result_ok}
use Rattle.std.specs.List.{list_all}
use Rattle.std.specs.Char.{is_ascii_digit}
use Rattle.std.specs.Str.{IsAscii, IsUtf8}
use Rattle.std.specs.Str.Parse.{AllDigits, digits_value, ParsesUnsigned}
use Rattle.std.proofs.lemmas.Bool.Decides.{nat_tests}
use Rattle.std.proofs.lemmas.Str.Ascii.{IsAscii-nil, IsAscii-cons}
use Rattle.std.proofs.lemmas.Str.{IsUtf8-from_ascii}
use Rattle.std.proofs.lemmas.Str.Parse.{parse_digits, numerals_by_value, tells_digits}
use Rattle.frac128.proofs.DigitLemmas.{AllDigits-from_test}
use Rattle.command_read.specs.Parts.{is_numeral}

-- both pass
pub both : (a b : Bool) → (a && b) ≡ true → (a ≡ true) × (b ≡ true)
both true b h = (refl, h)
both false b h = absurd (cc)

digit_below : (b : ℕ) → is_ascii_digit b ≡ true → b < 128
digit_below b h = grind (arith, nat_tests)

digits_ascii : (bytes : List ℕ) → list_all is_ascii_digit bytes ≡ true → IsAscii bytes
digits_ascii [] h = IsAscii-nil
digits_ascii (b ∷ bytes) h =
    let p = both (is_ascii_digit b) (list_all is_ascii_digit bytes) h in
    IsAscii-cons b bytes (digit_below b p.0) (digits_ascii bytes p.1)

-- digits are text
pub digits_utf8 : (bytes : List ℕ) → is_numeral bytes ≡ true → IsUtf8 bytes
digits_utf8 bytes h = IsUtf8-from_ascii bytes (digits_ascii bytes (both _ _ h).1)

-- so they aren't refused as text
pub no_text : {T E : Type 0} (P : T → Type 0) (Q : E → Type 0) (U : Type 0) (r : Result T E) → MatchResult r P (λ e. (¬ U) × Q e) → U → None ≡ result_ok r → ⊥
no_text P Q U (Ok x) cases is_text e = absurd (cc)
no_text P Q U (Err x) cases is_text e = cases.0 is_text

some_from_ok : {A E : Type 0} (P : Type 0) (v : A) (r : Result A E) → OkIff r P v → SomeIff (result_ok r) P v
some_from_ok P v (Ok x) h = h
some_from_ok P v (Err e) h = h

-- digits have a value that fits 32 bits
abbrev Fits32 : List ℕ → Type 0
Fits32 bytes = digits_value 10 bytes < 2 ^ 32

without_length : {E : Type 0} (bytes : List ℕ) (r : Result ℕ E) → 0 < length bytes
    → OkIff r ((0 < length bytes) × Fits32 bytes) (digits_value 10 bytes) → OkIff r (Fits32 bytes) (digits_value 10 bytes)
without_length bytes (Ok x) some h = (h.0.1, h.1)
without_length bytes (Err e) some h = λ k. h (some, k)

-- what parsing digits answers
pub digits_parse : {E : Type 0} (bytes : List ℕ) (r : Result ℕ E) → is_numeral bytes ≡ true → ParsesUnsigned 32 10 bytes r
    → SomeIff (result_ok r) (digits_value 10 bytes < 2 ^ 32) (digits_value 10 bytes)
digits_parse bytes r h parsed =
    let p : (nat_lt 0 (length bytes) ≡ true) × (list_all is_ascii_digit bytes ≡ true) = both _ _ h in
    let some : 0 < length bytes = let q : nat_lt 0 (length bytes) ≡ true = p.0 in grind (arith, nat_tests) in
    let digits = AllDigits-from_test bytes p.1 in
    let parses = parse_digits (numerals_by_value (AllDigits 10) tells_digits) 32 bytes r parsed digits in
    some_from_ok (Fits32 bytes) (digits_value 10 bytes) r (without_length bytes r some parses)
