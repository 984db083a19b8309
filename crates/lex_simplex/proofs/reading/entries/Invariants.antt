use Rattle.std.proofs.Common.{◌≡◌, ◌++◌, drop}
use Rattle.frac128.specs.Entries.{entries_from}
use Rattle.lex_simplex.proofs.reading.entries.Given as goal

abbrev pub invariant-loop-position : goal.invariant-loop-position
invariant-loop-position l = l.on.items ++ entries_from l.position (drop l.position l.weight-items) ≡ entries_from 0 l.weight-items
