-- The coefficients of a difference, place by place.
use Rattle.std.specs.Prelude.{nat_le, nat_lt, ◌&&◌}
use Rattle.std.proofs.Common.{◌≡◌, ◌⊎◌, inl, inr, ℕ, zero, suc, ◌+◌, ◌-◌, ◌<◌, ◌≤◌, Bool, true, false, cond, ℤ, pos, negsuc, ◌-ℤ◌, ◌*ℤ◌, List, [], ◌∷◌, ◌++◌, length, drop, get_or, replicate, append_assoc, append-nil, refl, sym, ap, ap₂, ◌∙◌, arith, rules, FitsSigned}
use Rattle.std.specs.Int.{w128}
use Rattle.std.proofs.Math.Seq.{drop-cons}
use Rattle.std.proofs.lemmas.Bool.{true≢false, false≢true, cases_lt, lt-ltb, le-ltb, le-leb}
use Rattle.std.proofs.lemmas.List.{length-append, length-replicate, drop_all}
use Rattle.std.proofs.lemmas.Grind.{common_steps}
use Rattle.integers.specs.Vector.{scale}
use Rattle.integers.proofs.Laws.{lin, minus_one-*ℤ}
use Rattle.integers.proofs.Loops.{push_next}
use Rattle.integers.proofs.VectorLaws.{scale-append, get_or-add, get_or-scale, length-add, length-scale}
use Rattle.judgement_matrix.specs.Matrix.{IsPair}
use Rattle.lp_macbeth.specs.Gaps.{gap_coefs, opposite}
use Rattle.lp_macbeth.specs.Rows.{cross_coefs}

-- ---- lengths

-- a number for each gap
pub length-gap_coefs : (n p q : ℕ) → IsPair n p q → length (gap_coefs n p q) ≡ n - 1
length-gap_coefs n p q in_n =
    length-append (replicate (n - q) (pos 0) ++ replicate (q - p) (pos 1)) (replicate (p - 1) (pos 0))
    ∙ omega (
      arith,
      length-append (replicate (n - q) (pos 0)) (replicate (q - p) (pos 1)),
      length-replicate (n - q) (pos 0),
      length-replicate (q - p)
          (pos 1),
      length-replicate (p - 1) (pos 0),
    )

pub length-opposite : (xs : List ℤ) → length (opposite xs) ≡ length xs
length-opposite xs = length-scale (negsuc 0) xs

pub length-cross_coefs : (n p q x y : ℕ) → IsPair n p q → IsPair n x y → length (cross_coefs n p q x y) ≡ n - 1
length-cross_coefs n p q x y left right =
    length-add (gap_coefs n p q) (opposite (gap_coefs n x y))
    ∙ omega (arith, length-gap_coefs n p q left, length-gap_coefs n x y right, length-opposite (gap_coefs n x y))

-- ---- pieces of copies

-- a multiple of copies
scale-replicate : (c x : ℤ) (n : ℕ) → scale c (replicate n x) ≡ replicate n (c *ℤ x)
scale-replicate c x zero = refl
scale-replicate c x (suc n) = ap (λ xs. (c *ℤ x) ∷ xs) (scale-replicate c x n)

-- the opposite of the coefficients, piece by piece
pub opposite-gap_coefs : (n p q : ℕ) → opposite (gap_coefs n p q) ≡ replicate (n - q) (pos 0) ++ replicate (q - p) (negsuc 0) ++ replicate (p - 1) (pos 0)
opposite-gap_coefs n p q =
    scale-append (negsuc 0) (replicate (n - q) (pos 0) ++ replicate (q - p) (pos 1)) (replicate (p - 1) (pos 0))
    ∙ ap₂ (λ xs ys. xs ++ ys) (scale-append (negsuc 0) (replicate (n - q) (pos 0)) (replicate (q - p) (pos 1))
    ∙ ap₂ (λ xs ys. xs ++ ys) (scale-replicate (negsuc 0) (pos 0) (n - q)) (scale-replicate (negsuc 0) (pos 1) (q - p)))
    (scale-replicate (negsuc 0) (pos 0) (p - 1))

-- three pieces added one after the other
pub pieces : {A : Type 0} (old one two three xs ys zs : List A) → one ≡ old ++ xs → two ≡ one ++ ys → three ≡ two ++ zs → three ≡ old ++ (xs ++ ys ++ zs)
pieces old one two three xs ys zs a b c = c ∙ ap (λ l. l ++ zs) (b ∙ ap (λ l. l ++ ys) a ∙ append_assoc old xs ys) ∙ append_assoc old (xs ++ ys) zs

-- and those of the opposite
pub opposite_pieces : (n p q : ℕ) (old one two three : List ℤ) → one ≡ old ++ replicate (n - q) (pos 0) → two ≡ one ++ replicate (q - p) (negsuc 0)
    → three ≡ two ++ replicate (p - 1) (pos 0) → three ≡ old ++ opposite (gap_coefs n p q)
opposite_pieces n p q old one two three a b c =
    pieces old one two three (replicate (n - q) (pos 0)) (replicate (q - p) (negsuc 0)) (replicate (p - 1) (pos 0)) a b c
    ∙ ap (λ l. old ++ l) (sym (opposite-gap_coefs n p q))

-- ---- place by place

-- among the copies at the front, and after them
get_or-in_front : {A : Type 0} (a : ℕ) (x : A) (rest : List A) (k : ℕ) (d : A) → k < a → get_or (replicate a x ++ rest) k d ≡ x
get_or-in_front zero x rest k d h = absurd (omega arith)
get_or-in_front (suc a) x rest zero d h = refl
get_or-in_front (suc a) x rest (suc k) d h = get_or-in_front a x rest k d (omega arith)

get_or-past_front : {A : Type 0} (a : ℕ) (x : A) (rest : List A) (k : ℕ) (d : A) → get_or (replicate a x ++ rest) (a + k) d ≡ get_or rest k d
get_or-past_front zero x rest k d = ap (λ i. get_or rest i d) (omega arith)
get_or-past_front {A} (suc a) x rest k d =
    let e : suc a + k ≡ suc (a + k) = omega arith in
    ap (λ i. get_or (replicate (suc a) x ++ rest) i d) e ∙ get_or-past_front a x rest k d

-- zeros are 0 at each place and past their end
get_or-zeros : (c k : ℕ) → get_or (replicate c (pos 0)) k (pos 0) ≡ pos 0
get_or-zeros zero k = refl
get_or-zeros (suc c) zero = refl
get_or-zeros (suc c) (suc k) = get_or-zeros c k

-- ones between zeros
ones_at : (a b c k : ℕ) → get_or (replicate a (pos 0) ++ replicate b (pos 1) ++ replicate c (pos 0)) k (pos 0) ≡ cond (nat_le a k && nat_lt k (a + b)) (pos 1)
    (pos 0)
ones_at a b c k = ap (λ l. get_or l k (pos 0)) (append_assoc (replicate a (pos 0)) (replicate b (pos 1)) (replicate c (pos 0))) ∙ by_place (cases_lt k a)
  where
    past : (j : ℕ) → a + j ≡ k → (j < b) ⊎ (b ≤ j) → get_or (replicate b (pos 1) ++ replicate c (pos 0)) j (pos 0) ≡ cond (nat_le a k && nat_lt k (a + b))
        (pos 1) (pos 0)
    past j e (inl l) =
        let low : nat_le a k ≡ true = le-leb a k (omega arith) in
        let high : nat_lt k (a + b) ≡ true = lt-ltb k (a + b) (omega arith) in
        get_or-in_front b (pos 1) (replicate c (pos 0)) j (pos 0) l ∙ sym (ap₂ (λ s t. cond (s && t) (pos 1) (pos 0)) low high)
    past j e (inr g) =
        let low : nat_le a k ≡ true = le-leb a k (omega arith) in
        let high : nat_lt k (a + b) ≡ false = le-ltb k (a + b) (omega arith) in
        let split : b + (j - b) ≡ j = omega arith in
        ap (λ i. get_or (replicate b (pos 1) ++ replicate c (pos 0)) i (pos 0)) (sym split) ∙ get_or-past_front b (pos 1) (replicate c (pos 0)) (j - b) (pos 0)
        ∙ get_or-zeros c (j - b) ∙ sym (ap₂ (λ s t. cond (s && t) (pos 1) (pos 0)) low high)

    by_place : (k < a) ⊎ (a ≤ k) → get_or (replicate a (pos 0) ++ (replicate b (pos 1) ++ replicate c (pos 0))) k (pos 0) ≡ cond
        (nat_le a k && nat_lt k (a + b)) (pos 1) (pos 0)
    by_place (inl l) =
        let low : nat_le a k ≡ false = grind (arith, common_steps) in
        get_or-in_front a (pos 0) (replicate b (pos 1) ++ replicate c (pos 0)) k (pos 0) l ∙ sym (ap (λ s. cond (s && nat_lt k (a + b)) (pos 1) (pos 0)) low)
    by_place (inr g) =
        let split : a + (k - a) ≡ k = omega arith in
        ap (λ i. get_or (replicate a (pos 0) ++ (replicate b (pos 1) ++ replicate c (pos 0))) i (pos 0)) (sym split)
        ∙ get_or-past_front a (pos 0) (replicate b (pos 1) ++ replicate c (pos 0)) (k - a) (pos 0) ∙ past (k - a) split (cases_lt (k - a) b)

-- whether a gap is between decides its coefficient
pub get_or-gap_coefs : (n p q k : ℕ) → IsPair n p q → get_or (gap_coefs n p q) k (pos 0) ≡ cond (nat_le (n - q) k && nat_lt k (n - p)) (pos 1) (pos 0)
get_or-gap_coefs n p q k in_n =
    let e : n - q + (q - p) ≡ n - p = omega arith in
    ones_at (n - q) (q - p) (p - 1) k ∙ ap (λ b. cond (nat_le (n - q) k && nat_lt k b) (pos 1) (pos 0)) e

-- the coefficient in a row of two differences
pub get_or-cross_coefs : (n p q x y k : ℕ) → get_or (cross_coefs n p q x y) k (pos 0) ≡ get_or (gap_coefs n p q) k (pos 0) -ℤ get_or (gap_coefs n x y) k (pos 0)
get_or-cross_coefs n p q x y k =
    get_or-add (gap_coefs n p q) (opposite (gap_coefs n x y)) k
    ∙ omega (arith, lin, get_or-scale (negsuc 0) (gap_coefs n x y) k, minus_one-*ℤ (get_or (gap_coefs n x y) k (pos 0)))

-- ---- a loop's step

-- the next coefficient is added
pub cross_next : (n p q x y k : ℕ) (done all now : List ℤ) (coef : ℤ) → IsPair n p q → IsPair n x y → k < n - 1
    → coef ≡ get_or (gap_coefs n p q) k (pos 0) -ℤ get_or (gap_coefs n x y) k (pos 0) → done ++ drop k (cross_coefs n p q x y) ≡ all → now ≡ done ++ coef ∷ []
    → now ++ drop (k + 1) (cross_coefs n p q x y) ≡ all
cross_next n p q x y k done all now coef left right below is invariant added =
    let within : k < length (cross_coefs n p q x y) = omega (arith, length-cross_coefs n p q x y left right) in
    let value : get_or (cross_coefs n p q x y) k (pos 0) ≡ coef = get_or-cross_coefs n p q x y k ∙ sym is in
    let more : suc k ≡ k + 1 = omega arith in
    push_next done all (drop k (cross_coefs n p q x y)) (drop (k + 1) (cross_coefs n p q x y)) now coef invariant
    (drop-cons (cross_coefs n p q x y) k (pos 0) within ∙ ap₂ (λ v j. v ∷ drop j (cross_coefs n p q x y)) value more) added

-- all coefficients are there
pub cross_done : (n p q x y k : ℕ) (now all : List ℤ) → IsPair n p q → IsPair n x y → n - 1 ≤ k → now ++ drop k (cross_coefs n p q x y) ≡ all → now ≡ all
cross_done n p q x y k now all left right past invariant =
    let ended : length (cross_coefs n p q x y) ≤ k = omega (arith, length-cross_coefs n p q x y left right) in
    sym (append-nil now) ∙ ap (λ l. now ++ l) (sym (drop_all k (cross_coefs n p q x y) ended)) ∙ invariant

-- the coefficient by whether the gap is between the elements of each pair
pub cross_coef : (n p q x y k : ℕ) (a b : Bool) → IsPair n p q → IsPair n x y → a ≡ (nat_le (n - q) k && nat_lt k (n - p))
    → b ≡ (nat_le (n - y) k && nat_lt k (n - x)) → (coef : ℤ) → coef ≡ cond a (pos 1) (pos 0) -ℤ cond b (pos 1) (pos 0)
    → coef ≡ get_or (gap_coefs n p q) k (pos 0) -ℤ get_or (gap_coefs n x y) k (pos 0)
cross_coef n p q x y k a b left right first second coef is =
    is ∙ ap₂ (λ u v. u -ℤ v) (ap (λ t. cond t (pos 1) (pos 0)) first ∙ sym (get_or-gap_coefs n p q k left))
    (ap (λ t. cond t (pos 1) (pos 0)) second ∙ sym (get_or-gap_coefs n x y k right))

-- a difference of two bits
pub same_bits : (a b : Bool) → a ≡ b → pos 0 ≡ cond a (pos 1) (pos 0) -ℤ cond b (pos 1) (pos 0)
same_bits true true e = refl
same_bits false false e = refl
same_bits true false e = absurd (true≢false e)
same_bits false true e = absurd (false≢true e)

pub upper_bit : (a b : Bool) → ¬ (a ≡ b) → a ≡ true → pos 1 ≡ cond a (pos 1) (pos 0) -ℤ cond b (pos 1) (pos 0)
upper_bit true true apart e = absurd (apart refl)
upper_bit true false apart e = refl
upper_bit false b apart e = absurd (false≢true e)

pub lower_bit : (a b : Bool) → ¬ (a ≡ b) → a ≡ false → negsuc 0 ≡ cond a (pos 1) (pos 0) -ℤ cond b (pos 1) (pos 0)
lower_bit false false apart e = absurd (apart refl)
lower_bit false true apart e = refl
lower_bit true b apart e = absurd (true≢false e)

-- such a difference fits a machine number
pub bits_fit : (a b : Bool) → FitsSigned w128 (cond a (pos 1) (pos 0) -ℤ cond b (pos 1) (pos 0))
bits_fit true true = search rules
bits_fit true false = search rules
bits_fit false true = search rules
bits_fit false false = search rules

pub cross_fits : (n p q x y k : ℕ) → IsPair n p q → IsPair n x y → FitsSigned w128 (get_or (gap_coefs n p q) k (pos 0) -ℤ get_or (gap_coefs n x y) k (pos 0))
cross_fits n p q x y k left right =
    rw (get_or-gap_coefs n p q k left, get_or-gap_coefs n x y k right) (bits_fit (nat_le (n - q) k && nat_lt k (n - p)) (nat_le (n - y) k && nat_lt k (n - x)))
