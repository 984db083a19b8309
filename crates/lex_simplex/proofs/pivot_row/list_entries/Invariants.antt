use Rattle.std.proofs.Common.{◌≡◌, ◌≤◌, ◌++◌, length, take, drop}
use Rattle.frac128.specs.Entries.{entries_from}
use Rattle.lex_simplex.proofs.pivot_row.list_entries.Given as goal

abbrev pub invariant-loop-place : goal.invariant-loop-place
invariant-loop-place l = record {
  few : l.count ≤ l.place;
  long : length l.entries ≡ length l.fn.entries;
  listed : take l.count l.entries ++ entries_from l.place (drop l.place l.cells) ≡ entries_from 0 l.cells;
}
