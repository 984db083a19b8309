use Rattle.std.proofs.Common.{All, take}
use Rattle.model_json.specs.Kept.{IsNamed}
use Rattle.model_json.proofs.kept.elements_are_named.Given as goal

abbrev pub invariant-loop-at : goal.invariant-loop-at
invariant-loop-at l = All IsNamed (take l.at l.criterion.elements)
