-- Loops over chains of steps, one for each item, that add to what is done.
use Rattle.std.proofs.Common.{◌≡◌, List, [], ◌∷◌, ◌++◌, refl, sym, ap, ◌∙◌, Result, Ok, Err}
use Rattle.std.proofs.lemmas.List.{append_assoc}
use Rattle.frac128.specs.Chain.{◌>>=◌}

-- a step and the others, put behind what is done
abbrev pub chain : {B E : Type 0} → Result B E → (B → Result (List B) E) → List B → Result (List B) E
chain first rest done = (first >>= (λ y. (rest y) >>= (λ others. Ok (y ∷ others)))) >>= (λ others. Ok (done ++ others))

push_onto : {B E : Type 0} (r : Result (List B) E) (x : B) (done : List B)
    → (r >>= (λ others. Ok ((done ++ x ∷ []) ++ others))) ≡ ((r >>= (λ others. Ok (x ∷ others))) >>= (λ others. Ok (done ++ others)))
push_onto (Ok others) x done = ap (λ l. Ok l) (append_assoc done (x ∷ []) others)
push_onto (Err e) x done = refl

-- the step gives an item, which is added
pub chain_next : {B E : Type 0} (first : Result B E) (rest : B → Result (List B) E) (x : B) (done now : List B) (all : Result (List B) E)
    → Ok x ≡ first → now ≡ done ++ x ∷ [] → chain first rest done ≡ all → ((rest x) >>= (λ others. Ok (now ++ others))) ≡ all
chain_next first rest x done now all is made so_far =
    ap (λ l. (rest x) >>= (λ others. Ok (l ++ others))) made ∙ push_onto (rest x) x done ∙ ap (λ r. chain r rest done) is ∙ so_far

-- the step refuses
pub chain_stops : {B E : Type 0} (first : Result B E) (rest : B → Result (List B) E) (e : E) (done : List B) (all : Result (List B) E)
    → Err e ≡ first → chain first rest done ≡ all → all ≡ Err e
chain_stops first rest e done all is so_far = sym so_far ∙ ap (λ r. chain r rest done) (sym is)
