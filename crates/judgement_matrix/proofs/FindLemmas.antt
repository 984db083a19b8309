-- The first element that passes a test.
use Rattle.std.proofs.Common.{◌≡◌, Bool, true, false, cond, List, [], ◌∷◌, ◌++◌, Some, None, find, refl, ap}
use Rattle.std.specs.List.{AllByRecursion}

-- none passes
pub find_none : {X : Type 0} (f : X → Bool) (xs : List X) → find f xs ≡ None → AllByRecursion (λ x. f x ≡ false) xs
find_none f [] h = tt
find_none {X} f (y ∷ xs) h =
    let G : Bool → Type 0 = λ b. cond b (Some y) (find f xs) ≡ None → (b ≡ false) × AllByRecursion (λ x. f x ≡ false) xs in
    let by_test : G (f y) = elim (f y) as G [ true ↦ λ k. cc | false ↦ λ k. (refl, find_none f xs k) ] in
    by_test h

-- and back
pub find_from_none : {X : Type 0} (f : X → Bool) (xs : List X) → AllByRecursion (λ x. f x ≡ false) xs → find f xs ≡ None
find_from_none f [] h = refl
find_from_none f (y ∷ xs) h = rw h.0 (find_from_none f xs h.1)

-- where the first one stands
pub record IsFirst {X : Type 0} (f : X → Bool) (xs : List X) (x : X) : Type 0 where
  pub before : List X
  pub after : List X
  pub stands : xs ≡ before ++ x ∷ after
  pub fail : AllByRecursion (λ y. f y ≡ false) before
  pub passes : f x ≡ true

-- what was found is the first
pub find_first : {X : Type 0} (f : X → Bool) (xs : List X) (x : X) → find f xs ≡ Some x → IsFirst f xs x
find_first f [] x h = cc
find_first {X} f (y ∷ xs) x h =
    let G : Bool → Type 0 = λ b. f y ≡ b → cond b (Some y) (find f xs) ≡ Some x → IsFirst f (y ∷ xs) x in
    let by_test : G (f y) = elim (f y) as G [
      | true ↦ λ e k. let same : y ≡ x = cc in record { before = []; after = xs; stands = ap (λ z. z ∷ xs) same; fail = tt; passes = rw (← same) e }
      | false ↦ λ e k. let r = find_first f xs x k in record { before = y ∷ r.before; after = r.after; stands = ap (λ zs. y ∷ zs) r.stands; fail = (e, r.fail); passes = r.passes }
    ] in
    by_test refl h

-- the first is what is found
pub find_from_first : {X : Type 0} (f : X → Bool) (before : List X) (x : X) (after : List X) → AllByRecursion (λ y. f y ≡ false) before → f x ≡ true
    → find f (before ++ x ∷ after) ≡ Some x
find_from_first f [] x after h k = rw k refl
find_from_first f (y ∷ before) x after h k = rw h.0 (find_from_first f before x after h.1 k)
