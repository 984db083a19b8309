use Rattle.std.proofs.Common.{◌≡◌, ◌++◌, ◌∷◌, [], None, map, take, drop}
use Rattle.model_core.proofs.changes.widen.Given as goal

abbrev pub invariant-loop-row : goal.invariant-loop-row
invariant-loop-row l = l.rows ≡ map (λ row. row ++ None ∷ []) (take l.row-index l.initial.rows) ++ drop l.row-index l.initial.rows
