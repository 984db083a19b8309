-- Loops that write the parts of a model.
use Rattle.std.proofs.Common.{◌≡◌, ℕ, ◌+◌, ◌<◌, ◌≤◌, List, [], ◌∷◌, ◌++◌, length, map, take, drop, get_or, slice_get, Option, Some, None, refl, sym, ap, ap₂, ◌∙◌, append_assoc, append-nil}
use Rattle.std.proofs.lemmas.List.{map-append, drop_more, drop_all}
use Rattle.std.proofs.lemmas.Option.{slice_get_within, get_or_from_slice_get}
use Rattle.serde_json.specs.Data.{Data, Members}
use Rattle.serde_json.specs.View.{view}
use Rattle.serde_json.specs.declared.value.Value.{Value}
use Rattle.model_core.proofs.RosterLemmas.{take-more}
use Rattle.model_core.specs.State.{CriterionState}
use Rattle.model_json.specs.Writing.{with_performance_key, performance_members, options_with_rows}

-- one more value
pub pushed : {X : Type 0} (f : X → Data) (xs : List X) (i : ℕ) (x : X) (old new : List Value) (v : Value) → slice_get xs i ≡ Some x → new ≡ old ++ v ∷ []
    → view v ≡ f x
    → map view old ≡ map f (take i xs) → map view new ≡ map f (take (i + 1) xs)
pushed f xs i x old new v here is seen so_far =
    ap (map view) is ∙ map-append view old (v ∷ []) ∙ ap₂ (λ ds d. ds ++ d ∷ []) so_far seen ∙ sym (map-append f (take i xs) (x ∷ []))
    ∙ ap (map f) (sym (take-more xs i x here))

drop-here : {X : Type 0} (xs : List X) (i : ℕ) (x : X) → slice_get xs i ≡ Some x → drop i xs ≡ x ∷ drop (i + 1) xs
drop-here xs i x here = drop_more xs i x (slice_get_within xs i x here) ∙ ap (λ y. y ∷ drop (i + 1) xs) (get_or_from_slice_get xs i x x here)

-- one more performance
pub put_on : (cs : List CriterionState) (row : List (Option ℕ)) (k : ℕ) (c : CriterionState) (x : Option ℕ) (ms new total : Members) → slice_get cs k ≡ Some c
    → k < length row
    → x ≡ get_or row k None → new ≡ with_performance_key c x ms → performance_members (drop k cs) (drop k row) ms ≡ total
    → performance_members (drop (k + 1) cs) (drop (k + 1) row) new ≡ total
unfolding performance_members
put_on cs row k c x ms new total here within is made so_far =
    let there : drop k row ≡ x ∷ drop (k + 1) row = drop_more row k None within ∙ ap (λ y. y ∷ drop (k + 1) row) (sym is) in
    let one : performance_members (drop k cs) (drop k row) ms ≡ performance_members (drop (k + 1) cs) (drop (k + 1) row) (with_performance_key c x ms) =
    rw (drop-here cs k c here, there) refl in
    ap (performance_members (drop (k + 1) cs) (drop (k + 1) row)) made ∙ sym one ∙ so_far

pub all_put : (cs : List CriterionState) (row : List (Option ℕ)) (k : ℕ) (ms total : Members) → length cs ≤ k → performance_members (drop k cs) row ms ≡ total
    → ms ≡ total
unfolding performance_members
all_put cs row k ms total le so_far =
    let one : performance_members (drop k cs) row ms ≡ ms = rw (drop_all k cs le) refl in
    sym one ∙ so_far

-- one more option
pub option_on : (f : List ℕ × List (Option ℕ) → Data) (names : List (List ℕ)) (rows : List (List (Option ℕ))) (k : ℕ) (old new : List Value) (v : Value)
    (total : List Data) → k < length names
    → k < length rows → new ≡ old ++ v ∷ [] → view v ≡ f (get_or names k [], get_or rows k [])
    → map view old ++ map f (options_with_rows (drop k names) (drop k rows)) ≡ total
    → map view new ++ map f (options_with_rows (drop (k + 1) names) (drop (k + 1) rows)) ≡ total
option_on f names rows k old new v total in_names in_rows is seen so_far =
    let one : map view old ++ map f (options_with_rows (drop k names) (drop k rows))
    ≡ map view old ++ f (get_or names k [], get_or rows k []) ∷ map f (options_with_rows (drop (k + 1) names) (drop (k + 1) rows)) =
    rw (drop_more names k [] in_names, drop_more rows k [] in_rows) refl in
    let more = map f (options_with_rows (drop (k + 1) names) (drop (k + 1) rows)) in
    ap (λ vs. map view vs ++ more) is ∙ ap (λ ds. ds ++ more) (map-append view old (v ∷ []) ∙ ap (λ d. map view old ++ d ∷ []) seen)
    ∙ append_assoc (map view old) (f (get_or names k [], get_or rows k []) ∷ []) more ∙ sym one ∙ so_far

pub all_options : (f : List ℕ × List (Option ℕ) → Data) (names : List (List ℕ)) (rows : List (List (Option ℕ))) (k : ℕ) (ds total : List Data)
    → length names ≤ k
    → ds ++ map f (options_with_rows (drop k names) rows) ≡ total → ds ≡ total
all_options f names rows k ds total le so_far =
    let one : ds ++ map f (options_with_rows (drop k names) rows) ≡ ds = ap (λ ns. ds ++ map f (options_with_rows ns rows)) (drop_all k names le)
    ∙ append-nil ds in
    sym one ∙ so_far
