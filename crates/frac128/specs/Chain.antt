-- Chains of results: each step goes on with what the step before it gave, and the first error is what the chain gives.
use Rattle.std.specs.Prelude.{◌≡◌, Bool, true, false, List, [], ◌∷◌, Option, Some, None, Result, Ok, Err}

-- the result, or the first error
infixl 10 ◌>>=◌
abbrev pub ◌>>=◌ : {A B E : Type 0} → Result A E → (A → Result B E) → Result B E
(Ok x) >>= f = f x
(Err e) >>= f = Err e

-- what was found, or else this error
abbrev pub found_or : {A E : Type 0} → E → Option A → Result A E
found_or e None = Err e
found_or e (Some x) = Ok x

-- a condition, or else this error
abbrev pub holds_or : {E : Type 0} → E → Bool → Result (Unit {0}) E
holds_or e true = Ok tt
holds_or e false = Err e

-- what a step gives for each item, or the first error
abbrev pub checked_each : {A B E : Type 0} → (A → Result B E) → List A → Result (List B) E
checked_each step [] = Ok []
checked_each step (x ∷ xs) = do
  y ← step x
  ys ← checked_each step xs
  Ok (y ∷ ys)

-- what a call returns is what a chain gives, as it is seen, or a fault, which says something of what the chain gives
abbrev pub Returns : {V X E F : Type 0} → (F → Result X E → Type 0) → (V → X) → Result X E → Result V F → Type 0
Returns Says view worked (Ok given) = worked ≡ Ok (view given)
Returns Says view worked (Err fault) = Says fault worked
