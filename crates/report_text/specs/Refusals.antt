-- Refusals: their words and their details.
use Rattle.std.specs.Prelude.{ℕ, ◌-◌, ◌≤◌, List, [], ◌++◌, map, length, slice_index_or, codes}
use Rattle.std.specs.Fmt.{decimal, signed_decimal}
use Rattle.std.specs.List.{flat_map}
use Rattle.integers.specs.Fraction.{Fraction}
use Rattle.frac128.specs.Text.{frac_text}
use Rattle.word_table.specs.declared.tables.TheConstants.{REFUSALS}
use Rattle.report_text.specs.Names.{quoted, two_names}
use Rattle.report_text.specs.declared.reply.Detail.{Detail}
use Rattle.report_text.specs.declared.reply.Detail.TheVariants.{None, At, Cell, Line, Missing, Place, Weighting, Reach, Shifted}

-- the words of the refusals, from number 1 on
abbrev pub refusal_texts : List (List ℕ)
refusal_texts = map (λ word. word.now) REFUSALS

-- the words of the refusal of a number
abbrev pub refusal_words : ℕ → List ℕ
refusal_words number = slice_index_or refusal_texts (number - 1) []

-- there is a refusal of this number
abbrev pub IsRefusal : ℕ → Type 0
IsRefusal number = (1 ≤ number) × (number ≤ length refusal_texts)

-- a criterion, a span and a reach
abbrev pub reach_words : List ℕ → Fraction → ℕ → List ℕ
reach_words criterion span reach = quoted criterion ++ codes " " ++ frac_text span ++ codes " " ++ decimal reach

-- a colon and the detail, where there is one
abbrev pub detail_words : Detail → List ℕ
detail_words None = []
detail_words (At pointer) = codes ": " ++ pointer
detail_words (Cell line field) = codes ": line " ++ decimal line ++ codes " field " ++ decimal field
detail_words (Line line) = codes ": " ++ decimal line
detail_words (Missing option criterion) = codes ": " ++ two_names option criterion
detail_words (Place criterion) = codes ": " ++ quoted criterion
detail_words Weighting = codes ": weighting"
detail_words (Reach criterion span reach) = codes ": " ++ reach_words criterion span reach
detail_words (Shifted shift) = codes ": shift" ++ flat_map (λ step. codes " " ++ signed_decimal step) shift.by

-- a refusal with its detail
abbrev pub refusal_line : ℕ → Detail → List ℕ
refusal_line number detail = codes "refused " ++ decimal number ++ codes " " ++ refusal_words number ++ detail_words detail
