-- Lists of zeros: `AreZero`, and zeros as many as asked for.
use lib.IntN.{*ℤ-zero, zero-*ℤ}
use Rattle.std.proofs.lemmas.Bool.{cases_eq}
use Rattle.std.proofs.lemmas.List.Elements.{All-nil, All-cons, All-head, All-tail, All-from_get_or}
use Rattle.std.proofs.Common.{◌≡◌, ◌≢◌, inl, inr, ℕ, zero, suc, ◌<◌, length, get_or, replicate, map, List, [], ◌∷◌, ℤ, pos, ◌+ℤ◌, ◌-ℤ◌, ◌*ℤ◌, neg_ℤ, refl, ap, ap₂, ◌∙◌, arith}
use Rattle.integers.specs.Vector.{dot, scale, add, row_step, AreZero}
use Rattle.integers.proofs.Ring.{con, ◌⊖◌, ◌⊗◌, ◌≗◌, ◌✶◌, ◌⇐◌, combine2}

-- ---- numbers that are all 0

-- one zero more
pub AreZero-cons : (x : ℤ) (xs : List ℤ) → x ≡ pos 0 → AreZero xs → AreZero (x ∷ xs)
AreZero-cons x xs e z = All-cons (λ x. x ≡ pos 0) x xs e z

-- the first of a list of zeros
pub AreZero-head : (x : ℤ) (xs : List ℤ) → AreZero (x ∷ xs) → x ≡ pos 0
AreZero-head x xs z = All-head (λ x. x ≡ pos 0) x xs z

-- the rest of a list of zeros
pub AreZero-tail : (x : ℤ) (xs : List ℤ) → AreZero (x ∷ xs) → AreZero xs
AreZero-tail x xs z = All-tail (λ x. x ≡ pos 0) x xs z

-- 0 times a list
pub AreZero-scale_zero : (xs : List ℤ) → AreZero (scale (pos 0) xs)
AreZero-scale_zero [] = All-nil (λ x. x ≡ pos 0)
AreZero-scale_zero (x ∷ xs) = AreZero-cons (pos 0 *ℤ x) (scale (pos 0) xs) (zero-*ℤ x) (AreZero-scale_zero xs)

-- sums of zeros
pub AreZero-add : (xs ys : List ℤ) → AreZero xs → AreZero ys → AreZero (add xs ys)
AreZero-add [] ys p q = q
AreZero-add (x ∷ xs) [] p q = p
AreZero-add (x ∷ xs) (y ∷ ys) p q =
    AreZero-cons (x +ℤ y) (add xs ys) (ap₂ (λ a b. a +ℤ b) (AreZero-head x xs p) (AreZero-head y ys q))
    (AreZero-add xs ys (AreZero-tail x xs p) (AreZero-tail y ys q))

-- numbers that are 0 apart from the place e, and there too
pub AreZero-from_others : (xs : List ℤ) (e : ℕ) → ((j : ℕ) → j < length xs → j ≢ e → get_or xs j (pos 0) ≡ pos 0) → get_or xs e (pos 0) ≡ pos 0 → AreZero xs
AreZero-from_others xs e others here =
    All-from_get_or (λ x. x ≡ pos 0) xs (pos 0) (λ j below. elim (cases_eq j e)
    [ inl is ↦ ap (λ i. get_or xs i (pos 0)) is ∙ here | inr apart ↦ others j below apart ])

-- a product with a list of zeros
pub dot-AreZero : (xs us : List ℤ) → AreZero us → dot xs us ≡ pos 0
dot-AreZero [] us z = refl
dot-AreZero (x ∷ xs) [] z = refl
dot-AreZero (x ∷ xs) (u ∷ us) z = ap₂ (λ a b. x *ℤ a +ℤ b) (AreZero-head u us z) (dot-AreZero xs us (AreZero-tail u us z)) ∙ ap (λ a. a +ℤ pos 0) (*ℤ-zero x)

-- lists of one length whose difference is all zeros are the same
pub same_from_difference : (us vs : List ℤ) → length us ≡ length vs → AreZero (row_step (pos 1) (pos 1) us vs) → us ≡ vs
same_from_difference [] [] l z = refl
same_from_difference [] (v ∷ vs) l z = absurd (omega arith)
same_from_difference (u ∷ us) [] l z = absurd (omega arith)
same_from_difference (u ∷ us) (v ∷ vs) l z =
    let here = AreZero-head (pos 1 *ℤ u -ℤ pos 1 *ℤ v) (row_step (pos 1) (pos 1) us vs) z in
    ap₂ (λ a b. a ∷ b) (combine2 (λ u v. u ≗ v ⇐ con (pos 1) ✶ (con (pos 1) ⊗ u ⊖ con (pos 1) ⊗ v ≗ con (pos 0)) ∷ []) refl u v here)
    (same_from_difference us vs (omega arith) (AreZero-tail (pos 1 *ℤ u -ℤ pos 1 *ℤ v) (row_step (pos 1) (pos 1) us vs) z))

-- ---- so many zeros

-- zeros are 0 at each place
pub get_or-zeros : (n j : ℕ) → get_or (replicate n (pos 0)) j (pos 0) ≡ pos 0
get_or-zeros zero j = refl
get_or-zeros (suc n) zero = refl
get_or-zeros (suc n) (suc j) = get_or-zeros n j

-- a multiple of zeros
pub scale-zeros : (c : ℤ) (n : ℕ) → scale c (replicate n (pos 0)) ≡ replicate n (pos 0)
scale-zeros c zero = refl
scale-zeros c (suc n) = ap₂ (λ a b. a ∷ b) (*ℤ-zero c) (scale-zeros c n)

-- the opposites of zeros
pub opposite_zeros : (n : ℕ) → map neg_ℤ (replicate n (pos 0)) ≡ replicate n (pos 0)
opposite_zeros zero = refl
opposite_zeros (suc n) = ap (λ l. pos 0 ∷ l) (opposite_zeros n)
