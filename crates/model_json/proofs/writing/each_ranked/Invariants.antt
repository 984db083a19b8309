use Rattle.std.proofs.Common.{◌≡◌, map, take}
use Rattle.serde_json.specs.Data.{string}
use Rattle.serde_json.specs.View.{view}
use Rattle.model_json.specs.Writing.{criterion_name}
use Rattle.model_json.proofs.writing.each_ranked.Given as goal

abbrev pub invariant-loop-at : goal.invariant-loop-at
invariant-loop-at l = map view l.values.items ≡ map (λ c. string (criterion_name l.model c)) (take l.at l.model.order)
