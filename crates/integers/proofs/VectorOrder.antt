-- Lists of numbers that are at least 0, or each at most another: what follows for dot products, up to weak duality.
use lib.IntN.{zero-*ℤ, *ℤ-zero}
use Rattle.std.specs.Int.Signed.{≤ℤ_refl, <ℤ_irrefl}
use Rattle.std.proofs.lemmas.List.Elements.{All-nil, All-cons, All-head, All-tail, All-from_get_or}
use Rattle.std.proofs.Common.{◌≡◌, ◌⊎◌, inl, inr, ◌<◌, length, replicate, All, refl, ap, negsuc, ℕ, zero, suc, get_or, List, [], ◌∷◌, ℤ, pos, ◌*ℤ◌, ◌≤ℤ◌, ◌<ℤ◌, ◌↔◌, sym, subst, subst₂, ◌∙◌, arith}
use Rattle.integers.specs.Vector.{dot, scale, add, weighted_sum, dot_each, int_sum, AreNonNegative, AreAtMost}
use Rattle.integers.proofs.Laws.{lin, minus_one-*ℤ}
use Rattle.integers.proofs.Order.{mul_nonneg, mul_pos, mul_le, le_trans, lt_cases}
use Rattle.integers.proofs.VectorLaws.{get_or-scale}
use Rattle.integers.proofs.Vector.{dot_comm, dot-scale, dot-scale_right, dot-weighted_sum}

-- a number at a place is not negative
pub get_or_nonneg : (qs : List ℤ) → AreNonNegative qs → (c : ℕ) → pos 0 ≤ℤ get_or qs c (pos 0)
get_or_nonneg [] h c = ≤ℤ_refl (pos 0)
get_or_nonneg (q ∷ qs) h zero = All-head (λ x. pos 0 ≤ℤ x) q qs h
get_or_nonneg (q ∷ qs) h (suc c) = get_or_nonneg qs (All-tail (λ x. pos 0 ≤ℤ x) q qs h) c

-- a place with a positive number is one of the list
pub below_length : (us : List ℤ) (e : ℕ) → pos 0 <ℤ get_or us e (pos 0) → e < length us
below_length [] e h = absurd (<ℤ_irrefl h)
below_length (u ∷ us) zero h = omega arith
below_length (u ∷ us) (suc e) h = let k = below_length us e h in omega arith

-- the opposites of numbers that are not positive are not negative
pub opposites_nonneg : (xs : List ℤ) → ((f : ℕ) → get_or xs f (pos 0) ≤ℤ pos 0) → AreNonNegative (scale (negsuc 0) xs)
opposites_nonneg xs h =
    All-from_get_or (λ x. pos 0 ≤ℤ x) (scale (negsuc 0) xs) (pos 0)
    (λ f l. let e = get_or-scale (negsuc 0) xs f in let k = h f in omega (arith, lin, minus_one-*ℤ (get_or xs f (pos 0))))

-- the product of lists of numbers at least 0 is at least 0
pub dot_nonneg : (xs us : List ℤ) → AreNonNegative xs → AreNonNegative us → pos 0 ≤ℤ dot xs us
dot_nonneg [] us p q = ≤ℤ_refl (pos 0)
dot_nonneg (x ∷ xs) [] p q = ≤ℤ_refl (pos 0)
dot_nonneg (x ∷ xs) (u ∷ us) p q =
    let first = mul_nonneg x u (All-head (λ x. pos 0 ≤ℤ x) x xs p) (All-head (λ x. pos 0 ≤ℤ x) u us q) in
    let rest = dot_nonneg xs us (All-tail (λ x. pos 0 ≤ℤ x) x xs p) (All-tail (λ x. pos 0 ≤ℤ x) u us q) in
    omega (arith, lin)

-- each at most the other, and the factors at least 0
pub dot_le : (xs ys us : List ℤ) → AreAtMost xs ys → AreNonNegative us → dot xs us ≤ℤ dot ys us
dot_le [] [] us h q = ≤ℤ_refl (pos 0)
dot_le [] (y ∷ ys) [] h q = ≤ℤ_refl (pos 0)
dot_le [] (y ∷ ys) (u ∷ us) h q =
    let first = mul_nonneg y u h.0 (All-head (λ x. pos 0 ≤ℤ x) u us q) in
    let rest = dot_le [] ys us h.1 (All-tail (λ x. pos 0 ≤ℤ x) u us q) in
    omega (arith, lin)
dot_le (x ∷ xs) [] [] h q = ≤ℤ_refl (pos 0)
dot_le (x ∷ xs) [] (u ∷ us) h q =
    let first = mul_le x (pos 0) u (All-head (λ x. pos 0 ≤ℤ x) u us q) h.0 in
    let rest = dot_le xs [] us h.1 (All-tail (λ x. pos 0 ≤ℤ x) u us q) in
    omega (arith, lin, zero-*ℤ u)
dot_le (x ∷ xs) (y ∷ ys) [] h q = ≤ℤ_refl (pos 0)
dot_le (x ∷ xs) (y ∷ ys) (u ∷ us) h q =
    let first = mul_le x y u (All-head (λ x. pos 0 ≤ℤ x) u us q) h.0 in
    let rest = dot_le xs ys us h.1 (All-tail (λ x. pos 0 ≤ℤ x) u us q) in
    omega (arith, lin)

-- the same in the second argument
pub dot_le_right : (us xs ys : List ℤ) → AreAtMost xs ys → AreNonNegative us → dot us xs ≤ℤ dot us ys
dot_le_right us xs ys h q = subst₂ (λ a b. a ≤ℤ b) (dot_comm xs us) (dot_comm ys us) (dot_le xs ys us h q)

-- coefficients that are not negative where a number is positive have a product that is positive, or 0 with 0 at each such place
pub dot_cases : (cs us : List ℤ) → AreNonNegative us → ((e : ℕ) → pos 0 <ℤ get_or us e (pos 0) → pos 0 ≤ℤ get_or cs e (pos 0))
    → pos 0 <ℤ dot cs us ⊎ (dot cs us ≡ pos 0) × ((e : ℕ) → pos 0 <ℤ get_or us e (pos 0) → get_or cs e (pos 0) ≡ pos 0)
dot_cases [] us n h = inr (refl, λ e p. refl)
dot_cases (c ∷ cs) [] n h = inr (refl, λ e p. absurd (<ℤ_irrefl p))
dot_cases (c ∷ cs) (u ∷ us) n h = step (lt_cases (pos 0) u) (lt_cases (pos 0) c) (dot_cases cs us (All-tail (λ x. pos 0 ≤ℤ x) u us n) (λ e p. h (suc e) p))
  where
    nonneg : pos 0 ≤ℤ u
    nonneg = All-head (λ x. pos 0 ≤ℤ x) u us n

    later : pos 0 <ℤ dot cs us ⊎ (dot cs us ≡ pos 0) × ((e : ℕ) → pos 0 <ℤ get_or us e (pos 0) → get_or cs e (pos 0) ≡ pos 0) → c *ℤ u ≡ pos 0
        → (pos 0 <ℤ u → c ≡ pos 0) → pos 0 <ℤ dot (c ∷ cs) (u ∷ us) ⊎ (dot (c ∷ cs) (u ∷ us) ≡ pos 0)
        × ((e : ℕ) → pos 0 <ℤ get_or (u ∷ us) e (pos 0) → get_or (c ∷ cs) e (pos 0) ≡ pos 0)
    later (inl p) z first = inl (omega (arith, lin))
    later (inr r) z first =
        let rest = r.0 in
        inr (omega (arith, lin), λ e. at e)
      where
        at : (e : ℕ) → pos 0 <ℤ get_or (u ∷ us) e (pos 0) → get_or (c ∷ cs) e (pos 0) ≡ pos 0
        at zero p = first p
        at (suc e) p = r.1 e p

    step : pos 0 <ℤ u ⊎ (pos 0 ≡ u) ⊎ u <ℤ pos 0 → pos 0 <ℤ c ⊎ (pos 0 ≡ c) ⊎ c <ℤ pos 0 → pos 0 <ℤ dot cs us ⊎ (dot cs us ≡ pos 0)
        × ((e : ℕ) → pos 0 <ℤ get_or us e (pos 0) → get_or cs e (pos 0) ≡ pos 0) → pos 0 <ℤ dot (c ∷ cs) (u ∷ us) ⊎ (dot (c ∷ cs) (u ∷ us) ≡ pos 0)
        × ((e : ℕ) → pos 0 <ℤ get_or (u ∷ us) e (pos 0) → get_or (c ∷ cs) e (pos 0) ≡ pos 0)
    step (inl p) (inl q) (inl r) = let m = mul_pos c u q p in inl (omega (arith, lin))
    step (inl p) (inl q) (inr r) = let m = mul_pos c u q p in let z = r.0 in inl (omega (arith, lin))
    step (inl p) (inr (inl q)) r = later r (ap (λ z. z *ℤ u) (sym q) ∙ zero-*ℤ u) (λ k. sym q)
    step (inl p) (inr (inr q)) r = let k = h 0 p in absurd (omega (arith, lin))
    step (inr (inl p)) w r = later r (ap (λ z. c *ℤ z) (sym p) ∙ *ℤ-zero c) (λ k. absurd (omega (arith, lin)))
    step (inr (inr p)) w r = let k = nonneg in absurd (omega (arith, lin))

-- ---- the order of lists

-- each number is at most itself
pub AreAtMost-refl : (xs : List ℤ) → AreAtMost xs xs
AreAtMost-refl [] = tt
AreAtMost-refl (x ∷ xs) = (≤ℤ_refl x, AreAtMost-refl xs)

-- at most, and at most again
pub AreAtMost-trans : (xs ys zs : List ℤ) → AreAtMost xs ys → AreAtMost ys zs → AreAtMost xs zs
AreAtMost-trans [] [] zs h k = k
AreAtMost-trans [] (y ∷ ys) [] h k = tt
AreAtMost-trans [] (y ∷ ys) (z ∷ zs) h k = (le_trans (pos 0) y z h.0 k.0, AreAtMost-trans [] ys zs h.1 k.1)
AreAtMost-trans (x ∷ xs) [] [] h k = h
AreAtMost-trans (x ∷ xs) [] (z ∷ zs) h k = (le_trans x (pos 0) z h.0 k.0, AreAtMost-trans xs [] zs h.1 k.1)
AreAtMost-trans (x ∷ xs) (y ∷ ys) [] h k = (le_trans x y (pos 0) h.0 k.0, AreAtMost-trans xs ys [] h.1 k.1)
AreAtMost-trans (x ∷ xs) (y ∷ ys) (z ∷ zs) h k = (le_trans x y z h.0 k.0, AreAtMost-trans xs ys zs h.1 k.1)

-- the numbers at each place
pub AreAtMost-at : (xs ys : List ℤ) → AreAtMost xs ys → (i : ℕ) → get_or xs i (pos 0) ≤ℤ get_or ys i (pos 0)
AreAtMost-at [] [] h i = ≤ℤ_refl (pos 0)
AreAtMost-at [] (y ∷ ys) h zero = h.0
AreAtMost-at [] (y ∷ ys) h (suc i) = AreAtMost-at [] ys h.1 i
AreAtMost-at (x ∷ xs) [] h zero = h.0
AreAtMost-at (x ∷ xs) [] h (suc i) = AreAtMost-at xs [] h.1 i
AreAtMost-at (x ∷ xs) (y ∷ ys) h zero = h.0
AreAtMost-at (x ∷ xs) (y ∷ ys) h (suc i) = AreAtMost-at xs ys h.1 i

-- numbers at most 0 times others are at most 0
pub none_above_zero : (xs cs : List ℤ) → AreAtMost xs (scale (pos 0) cs) → All (λ c. c ≤ℤ pos 0) xs
none_above_zero xs cs h =
    All-from_get_or (λ c. c ≤ℤ pos 0) xs (pos 0) (λ j l. subst (λ z. get_or xs j (pos 0) ≤ℤ z) (get_or-scale (pos 0) cs j ∙ zero-*ℤ (get_or cs j (pos 0)))
    (AreAtMost-at xs (scale (pos 0) cs) h j))

-- from the numbers at each place
pub AreAtMost-from_at : (xs ys : List ℤ) → ((i : ℕ) → get_or xs i (pos 0) ≤ℤ get_or ys i (pos 0)) → AreAtMost xs ys
AreAtMost-from_at [] [] h = tt
AreAtMost-from_at [] (y ∷ ys) h = (h 0, AreAtMost-from_at [] ys (λ i. h (suc i)))
AreAtMost-from_at (x ∷ xs) [] h = (h 0, AreAtMost-from_at xs [] (λ i. h (suc i)))
AreAtMost-from_at (x ∷ xs) (y ∷ ys) h = (h 0, AreAtMost-from_at xs ys (λ i. h (suc i)))

-- lists of one length compare by the places that they have
pub AreAtMost-from_places : (xs ys : List ℤ) → length xs ≡ length ys → ((j : ℕ) → j < length xs → get_or xs j (pos 0) ≤ℤ get_or ys j (pos 0)) → AreAtMost xs ys
AreAtMost-from_places [] [] e h = tt
AreAtMost-from_places [] (y ∷ ys) e h = absurd (omega arith)
AreAtMost-from_places (x ∷ xs) [] e h = absurd (omega arith)
AreAtMost-from_places (x ∷ xs) (y ∷ ys) e h = (h 0 (omega arith), AreAtMost-from_places xs ys (omega arith) (λ j below. h (suc j) (omega arith)))

-- at least 0 is at least the empty list
pub AreNonNegative-at_most : (xs : List ℤ) → AreNonNegative xs ↔ AreAtMost [] xs
AreNonNegative-at_most xs = (to xs, from xs)
  where
    to : (xs : List ℤ) → AreNonNegative xs → AreAtMost [] xs
    to [] h = tt
    to (x ∷ xs) h = (All-head (λ x. pos 0 ≤ℤ x) x xs h, to xs (All-tail (λ x. pos 0 ≤ℤ x) x xs h))

    from : (xs : List ℤ) → AreAtMost [] xs → AreNonNegative xs
    from [] h = All-nil (λ x. pos 0 ≤ℤ x)
    from (x ∷ xs) h = All-cons (λ x. pos 0 ≤ℤ x) x xs h.0 (from xs h.1)

-- the empty list is at most zeros
pub AreAtMost-zeros : (n : ℕ) → AreAtMost [] (replicate n (pos 0))
AreAtMost-zeros zero = tt
AreAtMost-zeros (suc n) = (≤ℤ_refl (pos 0), AreAtMost-zeros n)

-- zeros added to a list leave it at least as it was
pub AreAtMost-add_zeros : (n : ℕ) (xs : List ℤ) → AreAtMost xs (add (replicate n (pos 0)) xs)
AreAtMost-add_zeros zero xs = AreAtMost-refl xs
AreAtMost-add_zeros (suc n) [] = (≤ℤ_refl (pos 0), AreAtMost-zeros n)
AreAtMost-add_zeros (suc n) (x ∷ xs) = (omega (arith, lin), AreAtMost-add_zeros n xs)

-- numbers of at most 0 are at most the empty list
pub AreAtMost-nil : (xs : List ℤ) → All (λ c. c ≤ℤ pos 0) xs → AreAtMost xs []
AreAtMost-nil [] h = tt
AreAtMost-nil (x ∷ xs) h = (All-head (λ c. c ≤ℤ pos 0) x xs h, AreAtMost-nil xs (All-tail (λ c. c ≤ℤ pos 0) x xs h))

-- sums keep the order
pub int_sum_le : (xs ys : List ℤ) → AreAtMost xs ys → int_sum xs ≤ℤ int_sum ys
int_sum_le [] [] h = ≤ℤ_refl (pos 0)
int_sum_le [] (y ∷ ys) h = let first = h.0 in let rest = int_sum_le [] ys h.1 in omega (arith, lin)
int_sum_le (x ∷ xs) [] h = let first = h.0 in let rest = int_sum_le xs [] h.1 in omega (arith, lin)
int_sum_le (x ∷ xs) (y ∷ ys) h = let first = h.0 in let rest = int_sum_le xs ys h.1 in omega (arith, lin)

-- ---- weak duality

-- A u ≥ b, u ≥ 0, y ≥ 0 and y A ≤ d c give y·b ≤ d (c·u)
pub weak_duality : (rows : List (List ℤ)) (us bs ys cs : List ℤ) (d : ℤ) → AreAtMost bs (dot_each rows us) → AreNonNegative us → AreNonNegative ys
    → AreAtMost (weighted_sum ys rows) (scale d cs) → dot ys bs ≤ℤ (d *ℤ dot cs us)
weak_duality rows us bs ys cs d meets u y below =
    let left = dot_le_right ys bs (dot_each rows us) meets y in
    let right = dot_le (weighted_sum ys rows) (scale d cs) us below u in
    omega (arith, lin, dot-weighted_sum ys rows us, dot-scale d cs us)

-- the same for the point u over n: A u ≥ n b
pub weak_duality_over : (rows : List (List ℤ)) (us bs ys cs : List ℤ) (n d : ℤ) → AreAtMost (scale n bs) (dot_each rows us) → AreNonNegative us
    → AreNonNegative ys → AreAtMost (weighted_sum ys rows) (scale d cs) → (n *ℤ dot ys bs) ≤ℤ (d *ℤ dot cs us)
weak_duality_over rows us bs ys cs n d meets u y below =
    subst (λ z. z ≤ℤ (d *ℤ dot cs us)) (dot-scale_right n ys bs) (weak_duality rows us (scale n bs) ys cs d meets u y below)

-- y ≥ 0, y A ≤ 0 and y·b > 0 refute A u ≥ n b with u ≥ 0 and n > 0
pub farkas : (rows : List (List ℤ)) (us bs ys : List ℤ) (n : ℤ) → pos 0 <ℤ n → AreNonNegative ys → AreAtMost (weighted_sum ys rows) [] → pos 0 <ℤ dot ys bs
    → AreAtMost (scale n bs) (dot_each rows us) → AreNonNegative us → ⊥
farkas rows us bs ys n p y below above meets u =
    let positive = mul_pos n (dot ys bs) p above in
    let most = weak_duality_over rows us bs ys [] n (pos 1) meets u y below in
    absurd (omega (arith, lin))
