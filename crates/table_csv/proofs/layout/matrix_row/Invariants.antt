use Rattle.std.proofs.Common.{◌≡◌, ◌+◌, ◌-◌, ◌++◌, length, map}
use Rattle.std.specs.List.{range_with_len}
use Rattle.table_csv.specs.Layout.{pair_text, matrix_row}
use Rattle.table_csv.proofs.layout.matrix_row.Given as goal

abbrev pub invariant-loop-q : goal.invariant-loop-q
invariant-loop-q l = l.row.items ++ map (pair_text l.matrix l.p) (range_with_len (l.q + 1) (length l.names - l.q)) ≡ matrix_row l.names l.matrix l.p
