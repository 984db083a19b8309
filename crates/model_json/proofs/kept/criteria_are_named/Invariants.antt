use Rattle.std.proofs.Common.{All, take}
use Rattle.model_json.specs.Kept.{IsNamedCriterion}
use Rattle.model_json.proofs.kept.criteria_are_named.Given as goal

abbrev pub invariant-loop-at : goal.invariant-loop-at
invariant-loop-at l = All IsNamedCriterion (take l.at l.model.criteria)
