-- The first places of a row.
use Rattle.std.proofs.Common.{◌≡◌, ℕ, zero, suc, ◌<◌, ◌≤◌, ◌++◌, List, [], ◌∷◌, take, remove, replicate, length, slice_set, refl, ap, arith}

pub take-replicate : {A : Type 0} (n m : ℕ) (v : A) → n ≤ m → take n (replicate m v) ≡ replicate n v
take-replicate zero m v h = refl
take-replicate (suc n) zero v h = absurd (omega arith)
take-replicate (suc n) (suc m) v h = ap (λ xs. v ∷ xs) (take-replicate n m v (omega arith))

pub take-set : {A : Type 0} (n : ℕ) (xs : List A) (i : ℕ) (v : A) → i < n → take n (slice_set xs i v) ≡ slice_set (take n xs) i v
take-set zero xs i v h = absurd (omega arith)
take-set (suc n) [] i v h = refl
take-set (suc n) (x ∷ xs) zero v h = refl
take-set (suc n) (x ∷ xs) (suc i) v h = ap (λ ys. x ∷ ys) (take-set n xs i v (omega arith))

take_front : {A : Type 0} (n : ℕ) (xs ys : List A) → n ≤ length xs → take n (xs ++ ys) ≡ take n xs
take_front zero xs ys h = refl
take_front (suc n) [] ys h = absurd (omega arith)
take_front (suc n) (x ∷ xs) ys h = ap (λ zs. x ∷ zs) (take_front n xs ys (omega arith))

-- the first places of a row from which one was taken
pub take-removed : {A : Type 0} (n : ℕ) (xs : List A) (i : ℕ) (v : A) → i ≤ n → n < length xs → take n (remove xs i ++ v ∷ []) ≡ remove (take (suc n) xs) i
take-removed n [] i v low within = absurd (omega arith)
take-removed n (x ∷ xs) zero v low within = take_front n xs (v ∷ []) (omega arith)
take-removed zero (x ∷ xs) (suc i) v low within = absurd (omega arith)
take-removed (suc n) (x ∷ xs) (suc i) v low within = ap (λ ys. x ∷ ys) (take-removed n xs i v (omega arith) (omega arith))
