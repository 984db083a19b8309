use Rattle.std.proofs.Common.{◌≡◌, ◌+◌, ◌-◌, ◌++◌, length, map}
use Rattle.std.specs.List.{range_with_len}
use Rattle.table_csv.specs.Layout.{matrix_row, matrix_table}
use Rattle.table_csv.specs.Lines.{rows}
use Rattle.table_csv.proofs.layout.matrix_table.Given as goal

abbrev pub invariant-loop-p : goal.invariant-loop-p
invariant-loop-p l =
    rows l.table.items ++ map (matrix_row l.names l.matrix) (range_with_len (l.p + 1) (length l.names - l.p)) ≡ matrix_table l.names l.matrix
