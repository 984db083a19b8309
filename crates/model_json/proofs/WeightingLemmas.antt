-- The weighting order: the places of its names.
use Rattle.std.proofs.Common.{◌≡◌, ℕ, ◌+◌, ◌<◌, ◌≤◌, List, [], ◌∷◌, ◌++◌, length, get_or, Option, Some, None, Ok, refl, sym, ap}
use Rattle.std.specs.Option.{option_map, option_and_then}
use Rattle.serde_json.specs.View.{view, items_view}
use Rattle.serde_json.specs.declared.value.Value.{Value}
use Rattle.model_core.specs.State.{ModelState}
use Rattle.model_core.specs.Finding.{find_criterion}
use Rattle.model_core.specs.Edits.{places_of}
use Rattle.model_json.specs.declared.fault.Stop.{Stop}
use Rattle.model_json.specs.declared.fault.Stop.TheVariants as stop
use Rattle.model_json.specs.Steps.{Fails, read_as, each_into}
use Rattle.model_json.specs.Reading.{rank_of, ranked_of}
use Rattle.model_json.proofs.StepLemmas.{fails_as}
use Rattle.model_json.proofs.Loops.{Left, goes_on, ends, is_done}

same_some : {A : Type 0} (x y : A) → Some x ≡ Some y → x ≡ y
same_some x y h = cc

none_some : {A : Type 0} (x : A) → None ≡ Some x → ⊥
none_some x h = cc

-- ---- the places of names, one after the other

parts : (first : Option ℕ) (rest : Option (List ℕ)) (order : List ℕ) → option_and_then (λ c. option_map (λ cs. c ∷ cs) rest) first ≡ Some order
    → (c : ℕ) × (cs : List ℕ) × (first ≡ Some c) × (rest ≡ Some cs) × (c ∷ cs ≡ order)
parts None rest order h = absurd (none_some order h)
parts (Some c) None order h = absurd (none_some order h)
parts (Some c) (Some cs) order h = (c, cs, refl, refl, same_some (c ∷ cs) order h)

places-push : (m : ModelState) (names : List (List ℕ)) (order : List ℕ) (name : List ℕ) (c : ℕ) → places_of m names ≡ Some order
    → find_criterion m name ≡ Some c → places_of m (names ++ name ∷ []) ≡ Some (order ++ c ∷ [])
places-push m [] order name c is at = rw at (ap (λ cs. Some (cs ++ c ∷ [])) (same_some [] order is))
places-push m (first ∷ names) order name c is at =
    let p = parts (find_criterion m first) (places_of m names) order is in
    rw (p.2, places-push m names p.1 name c p.3 at) (ap (λ cs. Some (cs ++ c ∷ [])) p.4)

-- ---- the loop over the values of an order

-- what is left gives what all values give, and the order so far is that of these names
abbrev pub Ranked : ModelState → List Value → ℕ → List (List ℕ) → Type 0
Ranked m vs k names = (order : List ℕ) × Left (ranked_of m) [] vs k order × (places_of m names ≡ Some order)

module _ (m : ModelState) (vs : List Value) (k : ℕ) (names : List (List ℕ)) (left : Ranked m vs k names) where
  pub ranked_done : length vs ≤ k → read_as (λ order. Some order) (each_into (ranked_of m) 0 [] (items_view vs)) ≡ Ok (places_of m names)
  ranked_done le = rw (is_done (ranked_of m) [] vs k left.0 left.1 le) (ap Ok (sym left.2))

  module _ (v : Value) (lt : k < length vs) (is : v ≡ get_or vs k v) where
    pub ranked_goes_on : (name : List ℕ) (c : ℕ) → rank_of m (view v) ≡ Ok c → find_criterion m name ≡ Some c → Ranked m vs (k + 1) (names ++ name ∷ [])
    unfolding ranked_of
    ranked_goes_on name c e at =
        let step : ranked_of m k left.0 (view v) ≡ Ok (left.0 ++ c ∷ []) = rw e refl in
        (left.0 ++ c ∷ [], goes_on (ranked_of m) [] vs k left.0 left.1 v lt is (left.0 ++ c ∷ []) step, places-push m names left.0 name c left.2 at)

    pub ranked_ends : (s : Stop) → Fails s (rank_of m (view v)) → Fails s (read_as (λ order. Some order) (each_into (ranked_of m) 0 [] (items_view vs)))
    unfolding ranked_of
    ranked_ends s e =
        fails_as (λ order. Some order) s (each_into (ranked_of m) 0 [] (items_view vs)) (ends (ranked_of m) [] vs k left.0 left.1 v lt is s (fails s e))
      where
        fails : (t : Stop) → Fails t (rank_of m (view v)) → Fails t (ranked_of m k left.0 (view v))
        fails stop.NoMemory h = tt
        fails (stop.At p) h = rw h refl
