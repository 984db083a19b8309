use Rattle.std.proofs.Common.{◌≡◌, ◌+◌, ◌≤◌, drop, length}
use Rattle.csv.specs.Records.{fields_of}
use Rattle.table_csv.specs.Table.{wrong_field}
use Rattle.table_csv.proofs.reading.wrong_field.Given as goal

abbrev pub invariant-loop-column : goal.invariant-loop-column
invariant-loop-column l = record {
  room : l.column ≤ length l.names + 1;
  rest : wrong_field l.names l.row l.column (drop l.column (fields_of l.fields)) ≡ wrong_field l.names l.row 0 (fields_of l.fields);
}
