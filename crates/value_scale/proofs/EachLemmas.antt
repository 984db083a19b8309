-- A step for each item of a list, up to the first refusal.
use Rattle.std.specs.Result.{IfOk}
use Rattle.std.proofs.Common.{◌≡◌, ℕ, suc, List, [], ◌∷◌, All, length, refl, ap, Result, Ok, Err}
use Rattle.std.proofs.lemmas.List.Elements.{All-nil, All-cons, All-head, All-tail}
use Rattle.frac128.specs.Chain.{◌>>=◌, checked_each}
use Rattle.frac128.proofs.FormulaLemmas.{IfOk-bind}

one_more : {B E : Type 0} (first : Result B E) (behind : Result (List B) E) (n : ℕ) → IfOk behind (λ ys. length ys ≡ n)
    → IfOk (first >>= (λ y. behind >>= (λ ys. Ok (y ∷ ys)))) (λ ys. length ys ≡ suc n)
one_more (Ok y) (Ok ys) n h = ap suc h
one_more (Ok y) (Err e) n h = tt
one_more (Err e) behind n h = tt

-- there are as many results as items
pub each_length : {A B E : Type 0} (step : A → Result B E) (xs : List A) → IfOk (checked_each step xs) (λ ys. length ys ≡ length xs)
each_length step [] = refl
each_length step (x ∷ xs) = one_more (step x) (checked_each step xs) (length xs) (each_length step xs)

-- what the step makes of each holds of all
pub each_ok : {A B E : Type 0} (step : A → Result B E) (P : A → Type 0) (Q : B → Type 0) → ((x : A) → P x → IfOk (step x) Q) → (xs : List A) → All P xs
    → IfOk (checked_each step xs) (All Q)
each_ok step P Q makes [] h = All-nil Q
each_ok step P Q makes (x ∷ xs) h =
    IfOk-bind (step x) (λ y. (checked_each step xs) >>= (λ ys. Ok (y ∷ ys))) Q (All Q) (makes x (All-head P x xs h)) (λ y qy.
    IfOk-bind (checked_each step xs) (λ ys. Ok (y ∷ ys)) (All Q) (All Q) (each_ok step P Q makes xs (All-tail P x xs h))
    (λ ys qs. All-cons Q y ys qy qs))
