-- An array that is read gives what was written, one value after the other.
use Rattle.std.proofs.Common.{◌≡◌, ℕ, ◌+◌, List, [], ◌∷◌, ◌++◌, length, map, Result, Ok, ap, sym, ◌∙◌, arith, append_assoc, append-nil}
use Rattle.std.proofs.lemmas.List.{length-append}
use Rattle.serde_json.specs.Data.{Data}
use Rattle.serde_json.specs.View.{items_of}
use Rattle.model_json.specs.declared.place.Place.{Place}
use Rattle.model_json.specs.Steps.{each_into}

-- where each value, read behind those before it, gives what is to be so far
pub each_again : {X S : Type 0} (step : ℕ → S → Data → Result S Place) (data_of : X → Data) (after : List X → S) (all : List X)
    → ((seen : List X) (x : X) (rest : List X) → seen ++ x ∷ rest ≡ all → step (length seen) (after seen) (data_of x) ≡ Ok (after (seen ++ x ∷ [])))
    → (seen xs : List X) → seen ++ xs ≡ all → each_into step (length seen) (after seen) (items_of (map data_of xs)) ≡ Ok (after all)
unfolding each_into
each_again step data_of after all one seen [] e = ap (λ ys. Ok (after ys)) (sym (append-nil seen) ∙ e)
each_again step data_of after all one seen (x ∷ xs) e =
    let next : length seen + 1 ≡ length (seen ++ x ∷ []) = omega (arith, length-append seen (x ∷ [])) in
    rw (one seen x xs e, next) (each_again step data_of after all one (seen ++ x ∷ []) xs (append_assoc seen (x ∷ []) xs ∙ e))
