use Rattle.std.proofs.Common.{◌≡◌, map, take}
use Rattle.serde_json.specs.View.{view}
use Rattle.model_json.specs.Writing.{criterion_data}
use Rattle.model_json.proofs.writing.each_criterion.Given as goal

abbrev pub invariant-loop-at : goal.invariant-loop-at
invariant-loop-at l = map view l.values.items ≡ map (criterion_data l.model) (take l.at l.model.criteria)
