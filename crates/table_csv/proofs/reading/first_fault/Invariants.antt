use Rattle.std.proofs.Common.{◌≡◌, ◌+◌, ◌≤◌, drop, length, map}
use Rattle.csv.specs.Records.{fields_of}
use Rattle.table_csv.specs.Table.{fault_from, fault_of}
use Rattle.table_csv.proofs.reading.first_fault.Given as goal

abbrev pub invariant-loop-row : goal.invariant-loop-row
invariant-loop-row l = record {
  room : l.row ≤ length l.names + 1;
  rest : fault_from l.names l.row (drop l.row (map fields_of l.records)) ≡ fault_of l.names (map fields_of l.records);
}
