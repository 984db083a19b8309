use Rattle.std.proofs.Common.{◌≡◌, ◌<◌, ◌++◌, length, drop, All}
use Rattle.std.specs.Option.{option_map}
use Rattle.model_core.specs.Edits.{places_of}
use Rattle.model_core.proofs.model.Model.places_of.Given as goal

abbrev pub invariant-loop-name : goal.invariant-loop-name
invariant-loop-name l = record {
  within : All (λ c. c < length l.self.criteria) l.places.items;
  so_far : option_map (λ rest. l.places.items ++ rest) (places_of l.self (drop l.name-index l.names)) ≡ places_of l.self l.names;
}
