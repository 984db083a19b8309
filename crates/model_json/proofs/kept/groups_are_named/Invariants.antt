use Rattle.std.proofs.Common.{All, take}
use Rattle.model_json.specs.Kept.{IsNamed}
use Rattle.model_json.proofs.kept.groups_are_named.Given as goal

abbrev pub invariant-loop-at : goal.invariant-loop-at
invariant-loop-at l = All (λ group. IsNamed group.name) (take l.at l.model.groups)
