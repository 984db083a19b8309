-- Values beside names.
use Rattle.std.specs.Prelude.{ℕ, List, [], ◌∷◌, ◌++◌, map, Option, Some, None, codes}
use Rattle.std.specs.List.{zip, flat_map}
use Rattle.integers.specs.Fraction.{Fraction}
use Rattle.frac128.specs.Text.{frac_text}
use Rattle.frac128.specs.Decimal.{decimal_text}
use Rattle.report_text.specs.Lines.{counted}
use Rattle.report_text.specs.Names.{quoted}
use Rattle.report_text.specs.declared.words.TheConstants.{PLACES}

-- a value as a fraction and rounded
abbrev pub amount_words : Fraction → List ℕ
amount_words value = frac_text value ++ codes " " ++ decimal_text value PLACES

-- a name and its value
abbrev pub value_line : List ℕ × Fraction → List ℕ
value_line entry = quoted entry.0 ++ codes " " ++ frac_text entry.1

-- the same, rounded too
abbrev pub amount_line : List ℕ × Fraction → List ℕ
amount_line entry = quoted entry.0 ++ codes " " ++ amount_words entry.1

-- each name and its value
abbrev pub values_lines : List ℕ → List (List ℕ) → List Fraction → List (List ℕ)
values_lines heading names values = counted heading (map value_line (zip names values))

-- the same, rounded too
abbrev pub amounts_lines : List ℕ → List (List ℕ) → List Fraction → List (List ℕ)
amounts_lines heading names values = counted heading (map amount_line (zip names values))

-- values, each with a space before it
abbrev pub values_words : List Fraction → List ℕ
values_words values = flat_map (λ value. codes " " ++ frac_text value) values

-- where nothing bounds a value, `none`
abbrev pub high_words : Option Fraction → List ℕ
high_words None = codes "none"
high_words (Some high) = frac_text high

abbrev pub slack_line : Fraction → Option Fraction → List ℕ
slack_line low high = codes "slack " ++ frac_text low ++ codes " " ++ high_words high

-- an open scale and an open weight
abbrev pub scale_line : List ℕ × List Fraction → List ℕ
scale_line entry = codes "scale " ++ quoted entry.0 ++ values_words entry.1

abbrev pub weight_line : List ℕ × Fraction → List ℕ
weight_line entry = codes "weight " ++ value_line entry

-- where one option doesn't dominate the other
abbrev pub not_lines : Fraction → List (List ℕ × List Fraction) → List (List ℕ × Fraction) → List (List ℕ)
not_lines gap scales weights = (codes "not " ++ frac_text gap) ∷ (map scale_line scales ++ map weight_line weights)

-- subtotals and their total
abbrev pub subtotals_lines : List (List ℕ × Fraction) → Fraction → List (List ℕ)
subtotals_lines parts total = counted (codes "subtotals") (map amount_line parts) ++ (codes "total " ++ amount_words total) ∷ []
