-- A list of values has a second one.
use Rattle.std.proofs.Common.{◌≡◌, arith, List, [], ◌∷◌, length, is_some, nat_lt, refl}
use Rattle.std.proofs.lemmas.Bool.Decides.{nat_tests}
use Rattle.serde_json.specs.Find.{get_item}
use Rattle.serde_json.specs.View.{items_view}
use Rattle.serde_json.specs.declared.value.Value.{Value}

pub second : (vs : List Value) → nat_lt 1 (length vs) ≡ is_some (get_item 1 (items_view vs))
second [] = refl
second (v ∷ []) = refl
second (v ∷ w ∷ vs) = grind (arith, nat_tests)
