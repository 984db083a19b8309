-- The keys of a map, and of the members that it stands for.
use Rattle.std.proofs.Common.{◌≡◌, ℕ, List, [], ◌∷◌, ◌&&◌, ◌||◌, map, String, Global, string_bytes, refl, ap, ap₂, Bor}
use Rattle.std.specs.Prelude.{bytes_eq}
use Rattle.std.specs.List.{list_any, list_all}
use Rattle.std.specs.Map.{keys_of}
use Rattle.serde_json.specs.View.{members_view}
use Rattle.serde_json.specs.declared.value.Value.{Value}
use Rattle.model_json.specs.Steps.{has_only}

any_key : (keys : List (Bor (List ℕ))) (k : List ℕ) → list_any (λ x. bytes_eq x.now k) keys ≡ list_any (λ x. bytes_eq x k) (map (λ x. x.now) keys)
any_key [] k = refl
any_key (x ∷ xs) k = ap (λ b. bytes_eq x.now k || b) (any_key xs k)

pub all_keys : (keys : List (Bor (List ℕ))) (es : List (String Global × Value))
    → list_all (λ s. list_any (λ x. bytes_eq x.now (string_bytes s)) keys) (keys_of es) ≡ has_only (map (λ x. x.now) keys) (members_view es)
all_keys keys [] = refl
all_keys keys (e ∷ es) = ap₂ ◌&&◌ (any_key keys (string_bytes e.0)) (all_keys keys es)
