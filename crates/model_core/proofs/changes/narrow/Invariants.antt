use Rattle.std.proofs.Common.{◌≡◌, ◌++◌, map, take, drop, remove}
use Rattle.model_core.proofs.changes.narrow.Given as goal

abbrev pub invariant-loop-row : goal.invariant-loop-row
invariant-loop-row l = l.rows ≡ map (λ row. remove row l.at) (take l.row-index l.initial.rows) ++ drop l.row-index l.initial.rows
