-- The fraction that a text writes, as a function of its bytes.
use Rattle.frac128.specs.Frac.{lowest_terms}
use Rattle.frac128.specs.Reading.{slash}
use Rattle.integers.specs.Fraction.{Fraction}
use Rattle.std.specs.Prelude.{ℕ, ◌+◌, ◌^◌, take, drop, ◌&&◌, List, [], ◌∷◌, length, get_or, codes, Option, Some, None, nat_lt, ◌==◌, if◌then◌else◌, ℤ, pos, neg_ℤ}
use Rattle.std.specs.List.{list_all, position}
use Rattle.std.specs.Option.{option_map, option_map_or, option_and_then}
use Rattle.std.specs.Str.Parse.{digits_value}
use Rattle.std.specs.Char.{is_ascii_digit}

-- the sign of a number below 0
abbrev pub minus : ℕ
minus = get_or (codes "-") 0 0

-- digits alone: their number
abbrev pub digits_of : List ℕ → Option ℕ
digits_of text = if nat_lt 0 (length text) && list_all is_ascii_digit text then Some (digits_value 10 text) else None

-- the two numbers around a `/`, the second one not 0
abbrev pub quotient_of : Option ℕ → Option ℕ → Option (ℕ × ℕ)
quotient_of top bottom = option_and_then (λ n. option_and_then (λ d. if nat_lt 0 d then Some (n, d) else None) bottom) top

-- digits, over 1, or digits, `/` and digits
abbrev pub sizes_of : List ℕ → Option (ℕ × ℕ)
sizes_of text = option_map_or (λ at. quotient_of (digits_of (take at text)) (digits_of (drop (at + 1) text)))
    (position (λ byte. byte == slash) text) (option_map (λ n. (n, 1)) (digits_of text))

-- the fraction of two numbers in the range, in lowest terms, where the first gets a sign
abbrev pub fraction_from : (ℕ → ℤ) → ℕ × ℕ → Option Fraction
fraction_from sign sizes =
    if nat_lt sizes.0 (2 ^ 127) && nat_lt sizes.1 (2 ^ 127)
    then Some (lowest_terms (record { num = sign sizes.0; den = pos sizes.1 })) else None

-- the fraction that the bytes write, with a `-` in front or without
abbrev pub read_fraction : List ℕ → Option Fraction
read_fraction [] = None
read_fraction (byte ∷ bytes) =
    if byte == minus then option_and_then (fraction_from (λ n. neg_ℤ (pos n))) (sizes_of bytes)
    else option_and_then (fraction_from (λ n. pos n)) (sizes_of (byte ∷ bytes))
