-- Lists that a loop fills piece by piece.
use Rattle.std.proofs.Common.{◌≡◌, ℕ, zero, suc, ◌+◌, List, [], ◌∷◌, ◌++◌, drop, add-one, ap}
use Rattle.std.specs.Prelude.{slice_get, Some}
use Rattle.std.specs.List.{flat_map}
use Rattle.integers.proofs.Loops.{join_next}

-- the pieces that are left begin with that of the item at the place
next_piece : {A B : Type 0} (f : A → List B) (xs : List A) (i : ℕ) (x : A) → slice_get xs i ≡ Some x
    → flat_map f (drop i xs) ≡ f x ++ flat_map f (drop (suc i) xs)
next_piece f [] i x h = absurd (let e = h in cc)
next_piece f (y ∷ xs) zero x h = let same : y ≡ x = cc in ap (λ z. f z ++ flat_map f xs) same
next_piece f (y ∷ xs) (suc i) x h = next_piece f xs i x h

-- a loop's step
pub pieces-push : {A B : Type 0} (f : A → List B) (xs : List A) (i : ℕ) (x : A) (done now : List B)
    → done ++ flat_map f (drop i xs) ≡ flat_map f xs → slice_get xs i ≡ Some x → now ≡ done ++ f x → now ++ flat_map f (drop (i + 1) xs) ≡ flat_map f xs
pieces-push f xs i x done now so_far there made =
    join_next done (flat_map f xs) (flat_map f (drop i xs)) (flat_map f (drop (i + 1) xs)) now (f x) so_far next made
  where
    next : flat_map f (drop i xs) ≡ f x ++ flat_map f (drop (i + 1) xs)
    next = rw add-one (next_piece f xs i x there)
