-- Matrices, their rows and their repairs.
use Rattle.std.specs.Prelude.{◌≡◌, ℕ, ℤ, pos, List, [], ◌∷◌, ◌++◌, map, length, codes, if◌then◌else◌}
use Rattle.std.specs.Fmt.{decimal, signed_decimal}
use Rattle.std.specs.List.{zip, flat_map}
use Rattle.std.specs.Ordering.{int_eq}
use Rattle.judgement_matrix.specs.Matrix.{pairs}
use Rattle.judgement_matrix.specs.Range.{Bounds}
use Rattle.judgement_matrix.specs.declared.shift.Shift.{Shift}
use Rattle.judgement_matrix.specs.declared.tag.Tag.{Tag}
use Rattle.model_core.specs.Categories.{range_text}
use Rattle.report_text.specs.Lines.{counted}
use Rattle.report_text.specs.Names.{quoted, two_names, pair_words, tag_words, IsPlace}

-- a judged pair and its range
abbrev pub judged_line : List (List ℕ) → ℕ × ℕ × Bounds → List ℕ
judged_line names judged = pair_words names judged.0 judged.1 ++ codes " " ++ range_text judged.2

-- the elements, and the judged pairs
abbrev pub matrix_lines : List (List ℕ) → List (ℕ × ℕ × Bounds) → List (List ℕ)
matrix_lines names judged = (codes "matrix " ++ decimal (length names) ++ codes " " ++ decimal (length judged))
    ∷ (map quoted names ++ map (judged_line names) judged)

-- a judged pair stands at places among n names
abbrev pub IsJudgedOf : ℕ → ℕ × ℕ × Bounds → Type 0
IsJudgedOf n judged = IsPlace n judged.0 × IsPlace n judged.1

-- a row and its bound
abbrev pub row_line : List (List ℕ) → Tag × ℤ → List ℕ
row_line names row = tag_words names row.0 ++ codes " " ++ signed_decimal row.1

abbrev pub rows_lines : List (List ℕ) → List (Tag × ℤ) → List (List ℕ)
rows_lines names rows = counted (codes "rows") (map (row_line names) rows)

-- the pairs of these, in pair order
abbrev pub pairs_of : {A : Type 0} → List A → List (A × A)
pairs_of [] = []
pairs_of (upper ∷ lowers) = map (λ lower. (upper, lower)) lowers ++ pairs_of lowers

-- a pair and by how much it moves, where it does
abbrev pub step_words : (List ℕ × List ℕ) × ℤ → List ℕ
step_words step = if int_eq step.1 (pos 0) then []
    else codes " " ++ two_names step.0.0 step.0.1 ++ codes " " ++ signed_decimal step.1

-- a shift, by the pairs that it moves
abbrev pub shift_line : List (List ℕ) → Shift → List ℕ
shift_line names shift = codes "shift" ++ flat_map step_words (zip (pairs_of names) shift.by)

-- a shift of the pairs of n elements
abbrev pub IsShiftOf : ℕ → Shift → Type 0
IsShiftOf n shift = length shift.by ≡ length (pairs n)

-- by how much each repair moves in all
abbrev pub repairs_heading : ℕ → List ℕ
repairs_heading total = codes "repairs total " ++ decimal total ++ codes " count"

abbrev pub repairs_lines : List (List ℕ) → ℕ → List Shift → List (List ℕ)
repairs_lines names total shifts = counted (repairs_heading total) (map (shift_line names) shifts)
