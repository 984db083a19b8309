-- A loop over the values of an array, and the recursion over their data.
use Rattle.std.proofs.Common.{◌≡◌, ℕ, ◌+◌, ◌<◌, ◌≤◌, List, ◌∷◌, length, drop, get_or, Result, Ok, Err, refl, sym, ap, ◌∙◌}
use Rattle.std.proofs.lemmas.List.{drop_more, drop_all}
use Rattle.serde_json.specs.Data.{Data}
use Rattle.serde_json.specs.View.{view, items_view}
use Rattle.serde_json.specs.declared.value.Value.{Value}
use Rattle.model_json.specs.declared.place.Place.{Place}
use Rattle.model_json.specs.declared.fault.Stop.{Stop}
use Rattle.model_json.specs.declared.fault.Stop.TheVariants as stop
use Rattle.model_json.specs.Steps.{Fails, each_into}

-- what is left gives what all values give
abbrev pub Left : {S : Type 0} → (ℕ → S → Data → Result S Place) → S → List Value → ℕ → S → Type 0
Left step before vs k so_far = each_into step k so_far (items_view (drop k vs)) ≡ each_into step 0 before (items_view vs)

module _ {S : Type 0} (step : ℕ → S → Data → Result S Place) (before : S) (vs : List Value) (k : ℕ) (so_far : S) (left : Left step before vs k so_far) where
  pub is_done : length vs ≤ k → each_into step 0 before (items_view vs) ≡ Ok so_far
  unfolding each_into
  is_done le =
      let one : each_into step k so_far (items_view (drop k vs)) ≡ Ok so_far = rw (drop_all k vs le) refl in
      sym left ∙ one

  -- at the next value
  module _ (v : Value) (lt : k < length vs) (is : v ≡ get_or vs k v) where
    here : drop k vs ≡ v ∷ drop (k + 1) vs
    here = drop_more vs k v lt ∙ ap (λ y. y ∷ drop (k + 1) vs) (sym is)

    pub goes_on : (next : S) → step k so_far (view v) ≡ Ok next → Left step before vs (k + 1) next
    unfolding each_into
    goes_on next e =
        let one : each_into step k so_far (items_view (drop k vs)) ≡ each_into step (k + 1) next (items_view (drop (k + 1) vs)) = rw (here, e) refl in
        sym one ∙ left

    pub ends : (s : Stop) → Fails s (step k so_far (view v)) → Fails s (each_into step 0 before (items_view vs))
    unfolding each_into
    ends stop.NoMemory e = tt
    ends (stop.At p) e =
        let one : each_into step k so_far (items_view (drop k vs)) ≡ Err p = rw (here, e) refl in
        sym left ∙ one
