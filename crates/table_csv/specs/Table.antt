-- Tables of judgements: which records are one, the first fault of others, and the matrix that one holds.
use Rattle.std.specs.Prelude.{◌≡◌, ℕ, ◌+◌, ◌≤◌, ◌==◌, Bool, false, true, ◌&&◌, ◌||◌, nat_lt, nat_le, List, [], ◌∷◌, length, map, slice_index_or, slice_set, codes, Option, Some, None, is_some, Result, Ok, Err, if◌then◌else◌}
use Rattle.std.specs.Option.{option_map_or}
use Rattle.std.specs.Str.{bytes_eq}
use Rattle.csv.specs.Reading.{AreRecords, default_config, strip_bom}
use Rattle.csv.specs.declared.parser.State.TheVariants as state
use Rattle.judgement_matrix.specs.Range.{Bounds, full}
use Rattle.judgement_matrix.specs.Matrix.{Judgements, pairs, place}
use Rattle.model_core.specs.Categories.{range_of}
use Rattle.table_csv.specs.declared.fault.TableFault.{TableFault}
use Rattle.table_csv.specs.declared.fault.TableFault.TheVariants.{BadTable, NoMemory}

-- the records of a text, by csv's defaults, without a header record and whatever the number of fields
abbrev pub AreRecordsOf : List ℕ → List (List (List ℕ)) → Type 0
AreRecordsOf text records = AreRecords default_config state.StartRecord (strip_bom text) records

abbrev pub is_empty : List ℕ → Bool
is_empty field = length field == 0

-- the heading at a place, from 0: nothing, and then the names in order
abbrev pub heading : List (List ℕ) → ℕ → List ℕ
heading names k = slice_index_or ([] ∷ names) k []

-- whether a field may stand in this row and column, from 0: the headings in the first of both; then on the diagonal
-- nothing or `no`, below it nothing, and above it a range, or nothing or `?` for a pair that isn't judged
abbrev pub may_stand : List (List ℕ) → ℕ → ℕ → List ℕ → Bool
may_stand names row column field =
    if row == 0 then bytes_eq field (heading names column)
    else if column == 0 then bytes_eq field (heading names row)
    else if row == column then is_empty field || bytes_eq field (codes "no")
    else if nat_lt column row then is_empty field
    else is_empty field || (bytes_eq field (codes "?") || is_some (range_of field))

-- the first field of a row, from 1, that may not stand there, of those from a column on; where fields are wanting the
-- one behind the last, and where there are too many the first that is too much
unfoldable pub wrong_field : List (List ℕ) → ℕ → ℕ → List (List ℕ) → Option ℕ
wrong_field names row column [] = if column == length names + 1 then None else Some (column + 1)
wrong_field names row column (field ∷ fields) =
    if nat_le column (length names) && may_stand names row column field then wrong_field names row (column + 1) fields
    else Some (column + 1)

-- the fault of a row, or of those behind it
abbrev pub fault_in : ℕ → Option ℕ → Option (ℕ × ℕ) → Option (ℕ × ℕ)
fault_in row None behind = behind
fault_in row (Some field) behind = Some (row + 1, field)

-- the first record and in it the first field, both from 1, that isn't so, of the records from a row on; a record that
-- is wanting or too much has its fault in field 1
unfoldable pub fault_from : List (List ℕ) → ℕ → List (List (List ℕ)) → Option (ℕ × ℕ)
fault_from names row [] = if row == length names + 1 then None else Some (row + 1, 1)
fault_from names row (fields ∷ records) =
    if nat_le row (length names) then fault_in row (wrong_field names row 0 fields) (fault_from names (row + 1) records)
    else Some (row + 1, 1)

-- the first fault of a table of these names
abbrev pub fault_of : List (List ℕ) → List (List (List ℕ)) → Option (ℕ × ℕ)
fault_of names records = fault_from names 0 records

-- the field of a row and a column, from 0
abbrev pub field_of : List (List (List ℕ)) → ℕ → ℕ → List ℕ
field_of records row column = slice_index_or (slice_index_or records row []) column []

-- the records of a table of these names: as many as names and one more, each with as many fields, and each field may
-- stand where it does
pub record IsFaultless (names : List (List ℕ)) (records : List (List (List ℕ))) : Type 0 where
  pub size : length records ≡ length names + 1
  pub each : (row : ℕ) → row ≤ length names → length (slice_index_or records row []) ≡ length names + 1
  pub stand : (row column : ℕ) → row ≤ length names → column ≤ length names
      → may_stand names row column (field_of records row column) ≡ true

-- the cell that a field writes: its range as judged, or not judged where it writes none
abbrev pub cell_of : List ℕ → Bounds × Bool
cell_of field = option_map_or (λ range. (range, true)) (range_of field) (full, false)

-- the cell of a pair
abbrev pub cell_in : List (List (List ℕ)) → ℕ × ℕ → Bounds × Bool
cell_in records pair = cell_of (field_of records pair.0 pair.1)

-- the matrix of a table of so many elements
abbrev pub matrix_in : ℕ → List (List (List ℕ)) → Judgements
matrix_in size records = record { size = size; cells = map (cell_in records) (pairs size) }

-- the matrix of a table of these names
abbrev pub table_matrix : List (List ℕ) → List (List (List ℕ)) → Judgements
table_matrix names records = matrix_in (length names) records

-- what is to be answered for these records: the matrix where there is no fault, else the first
abbrev pub IsImport : List (List ℕ) → List (List (List ℕ)) → Result Judgements TableFault → Type 0
IsImport names records (Ok matrix) = (fault_of names records ≡ None) × (matrix ≡ table_matrix names records)
IsImport names records (Err (BadTable line field)) = fault_of names records ≡ Some (line, field)
IsImport names records (Err NoMemory) = Unit {0}

-- what is to be answered for a text, of which nothing is said where memory is wanting
abbrev pub Imports : List (List ℕ) → List ℕ → Result Judgements TableFault → Type 0
Imports names text (Err NoMemory) = Unit {0}
Imports names text answer = (records : List (List (List ℕ))) × AreRecordsOf text records × IsImport names records answer

-- ---- one step of it

-- the same judgements but for the cell of a pair
abbrev pub with_cell : Judgements → ℕ → ℕ → Bounds × Bool → Judgements
with_cell m p q cell = record { size = m.size; cells = slice_set m.cells (place m.size p q) cell }
