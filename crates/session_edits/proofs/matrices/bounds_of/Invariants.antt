use Rattle.std.proofs.Common.{◌≡◌, ◌++◌, drop, map}
use Rattle.session_edits.specs.Matrices.{with_bound}
use Rattle.session_edits.proofs.matrices.bounds_of.Given as goal

abbrev pub invariant-loop-row : goal.invariant-loop-row
invariant-loop-row l = l.bounds.items ++ map with_bound (drop l.row-index l.rows) ≡ map with_bound l.rows
