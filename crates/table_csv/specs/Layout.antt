-- Matrices and values as tables.
use Rattle.std.specs.Prelude.{ℕ, ◌-◌, Bool, true, false, nat_lt, List, [], ◌∷◌, length, map, zip, slice_index_or, codes, if◌then◌else◌}
use Rattle.std.specs.List.{range_with_len}
use Rattle.integers.specs.Fraction.{Fraction}
use Rattle.frac128.specs.Text.{frac_text}
use Rattle.frac128.specs.Decimal.{decimal_text}
use Rattle.judgement_matrix.specs.Range.{Bounds}
use Rattle.judgement_matrix.specs.Matrix.{Judgements, cell_at}
use Rattle.model_core.specs.Categories.{range_text}
use Rattle.table_csv.specs.declared.values.TheConstants.{PLACES}

-- the text of a range that was judged, else nothing
abbrev pub cell_text : Bounds × Bool → List ℕ
cell_text (range, true) = range_text range
cell_text (range, false) = []

-- what stands in row p and column q: the cell of the pair where p stands above q
abbrev pub pair_text : Judgements → ℕ → ℕ → List ℕ
pair_text m p q = if nat_lt p q then cell_text (cell_at m p q) else []

-- the row of element p: its name, and then a field for each element
abbrev pub matrix_row : List (List ℕ) → Judgements → ℕ → List (List ℕ)
matrix_row names m p = slice_index_or names (p - 1) [] ∷ map (pair_text m p) (range_with_len 1 (length names))

-- a matrix of these names: nothing and the names, and then the row of each element
abbrev pub matrix_table : List (List ℕ) → Judgements → List (List (List ℕ))
matrix_table names m = ([] ∷ names) ∷ map (matrix_row names m) (range_with_len 1 (length names))

-- a name, its value as a fraction, and that rounded
abbrev pub value_row : List ℕ × Fraction → List (List ℕ)
value_row entry = entry.0 ∷ frac_text entry.1 ∷ decimal_text entry.1 PLACES ∷ []

-- the head of the names, `value` and `decimal`, and then a row for each name
abbrev pub value_table : List ℕ → List (List ℕ) → List Fraction → List (List (List ℕ))
value_table head names values = (head ∷ codes "value" ∷ codes "decimal" ∷ []) ∷ map value_row (zip names values)
