-- Tables as lines.
use Rattle.std.specs.Prelude.{◌≡◌, ◌≤◌, ℕ, ◌-◌, List, length, map, take}
use Rattle.std.specs.List.{AllByRecursion}
use Rattle.std.specs.Global.{Vec}
use Rattle.csv.specs.Reading.{strip_bom}
use Rattle.csv.specs.Writing.{default_writer, row_text}
pub use Rattle.word_table.specs.Lines.{is_line, ended, lines_text}
use Rattle.table_csv.specs.Table.{AreRecordsOf, field_of}

-- the fields of each row
abbrev pub rows : List (Vec (List ℕ)) → List (List (List ℕ))
rows = map (λ row. row.items)

-- a line for each row, which with its newline is what csv writes of it by its defaults
abbrev pub AreLinesOf : List (List (List ℕ)) → List (List ℕ) → Type 0
AreLinesOf table lines = map ended lines ≡ map (row_text default_writer) table

-- the line of a row: what csv writes of it by its defaults, without the newline
abbrev pub line_of : List (List ℕ) → List ℕ
line_of row = take (length (row_text default_writer row) - 1) (row_text default_writer row)

-- the lines of a table
abbrev pub lines_of : List (List (List ℕ)) → List (List ℕ)
lines_of = map line_of

-- the text of the lines has the rows as its records
abbrev pub ReadAs : List (List (List ℕ)) → List (List ℕ) → Type 0
ReadAs table lines = AreRecordsOf (lines_text lines) table

-- Each row has two fields or more, and the first field of all doesn't begin with the mark that a reader drops.
pub record IsTable (table : List (List (List ℕ))) : Type 0 where
  pub each : AllByRecursion (λ row. 2 ≤ length row) table
  pub plain : strip_bom (field_of table 0 0) ≡ field_of table 0 0
