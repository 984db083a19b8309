-- The first step of several.
use Rattle.std.proofs.Common.{◌≡◌, List, ◌∷◌, Result, Ok, Err, refl, ap, ◌∙◌}
use Rattle.frac128.specs.Chain.{◌>>=◌, checked_each}

-- an item in front of what the others give
abbrev pub put_first : {X E : Type 0} → X → Result (List X) E → Result (List X) E
put_first y (Ok ys) = Ok (y ∷ ys)
put_first y (Err e) = Err e

by_rest : {X E : Type 0} (y : X) (rest : Result (List X) E) → (rest >>= λ ys. Ok (y ∷ ys)) ≡ put_first y rest
by_rest y (Ok ys) = refl
by_rest y (Err e) = refl

pub first_worked : {A X E : Type 0} (step : A → Result X E) (x : A) (xs : List A) (y : X) → step x ≡ Ok y
    → checked_each step (x ∷ xs) ≡ put_first y (checked_each step xs)
first_worked {A} {X} {E} step x xs y h =
    ap (λ (r : Result X E). r >>= λ z. checked_each step xs >>= λ ys. Ok (z ∷ ys)) h ∙ by_rest y (checked_each step xs)
