use Rattle.std.proofs.Common.{◌≡◌, ◌++◌, drop, map}
use Rattle.std.specs.Prelude.{zip}
use Rattle.table_csv.specs.Layout.{value_row, value_table}
use Rattle.table_csv.specs.Lines.{rows}
use Rattle.table_csv.proofs.values.value_table.Given as goal

abbrev pub invariant-loop-i : goal.invariant-loop-i
invariant-loop-i l = rows l.table.items ++ map value_row (zip (drop l.i l.names) (drop l.i l.values)) ≡ value_table l.head l.names l.values
