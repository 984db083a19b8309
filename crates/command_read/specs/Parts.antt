-- What a word of a command may stand for.
use Rattle.std.specs.Prelude.{ℕ, ◌-◌, ◌^◌, Bool, true, false, ◌&&◌, not, List, [], ◌∷◌, length, Option, Some, None, Result, Ok, Err, nat_lt, nat_le, if◌then◌else◌, pos}
use Rattle.std.specs.List.{list_all}
use Rattle.std.specs.Ordering.{int_eq}
use Rattle.std.specs.Option.{option_map_or}
use Rattle.std.specs.Char.{is_ascii_digit}
use Rattle.std.specs.Str.Parse.{digits_value}
use Rattle.integers.specs.Fraction.{Fraction}
use Rattle.judgement_matrix.specs.Range.{Bounds}
use Rattle.judgement_matrix.specs.Values.{fraction_at}
use Rattle.model_core.specs.Names.{is_name}
use Rattle.model_core.specs.State.{is_reserved}
use Rattle.model_core.specs.Categories.{range_of}
use Rattle.judgement_matrix.specs.declared.reach.TheConstants.{LEAST_REACH, MOST_REACH}
use Rattle.frac128.specs.Reader.{read_fraction}
use Rattle.frac128.specs.Chain.{◌>>=◌}
use Rattle.command_read.specs.declared.refusal.Refusal.{Refusal}
use Rattle.command_read.specs.declared.refusal.Refusal.TheVariants.{BadName, BadNumber, BadCategory}

-- a name of whatever there is
abbrev pub name : List ℕ → Result (List ℕ) Refusal
name word = if is_name word then Ok word else Err BadName

-- the name of a new criterion
abbrev pub new_name : List ℕ → Result (List ℕ) Refusal
new_name word = if is_name word && not (is_reserved word) then Ok word else Err BadName

abbrev pub names : List (List ℕ) → Result (List (List ℕ)) Refusal
names words = if list_all is_name words then Ok words else Err BadName

-- a category or a run of categories
abbrev pub range : List ℕ → Result Bounds Refusal
range word = option_map_or (λ bounds. Ok bounds) (range_of word) (Err BadCategory)

-- digits alone
abbrev pub is_numeral : List ℕ → Bool
is_numeral word = nat_lt 0 (length word) && list_all is_ascii_digit word

-- digits of a reach that a criterion may have
abbrev pub is_reach : List ℕ → Bool
is_reach word =
    is_numeral word && (nat_le LEAST_REACH (digits_value 10 word) && nat_le (digits_value 10 word) MOST_REACH)

abbrev pub reach : List ℕ → Result ℕ Refusal
reach word = if is_reach word then Ok (digits_value 10 word) else Err BadNumber

-- there is a last value, and it is 0
abbrev pub ends_in_zero : List Fraction → Bool
ends_in_zero values = nat_lt 0 (length values) && int_eq (fraction_at values (length values)).num (pos 0)

abbrev pub fraction : List ℕ → Result Fraction Refusal
fraction word = option_map_or (λ value. Ok value) (read_fraction word) (Err BadNumber)

unfoldable pub fractions : List (List ℕ) → Result (List Fraction) Refusal
fractions [] = Ok []
fractions (word ∷ words) = do
  value ← fraction word
  others ← fractions words
  Ok (value ∷ others)

-- the values of a scale
unfoldable pub values : List (List ℕ) → Result (List Fraction) Refusal
values words = do
  all ← fractions words
  if ends_in_zero all then Ok all else Err BadNumber
