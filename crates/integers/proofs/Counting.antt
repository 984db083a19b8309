-- A list of distinct members of another is no longer than it, and the choices of k of n numbers are all the rising lists.
use Rattle.std.specs.List.Sorted.{IsStrictlyIncreasing}
use Rattle.std.proofs.lemmas.List.{length-map}
use Rattle.std.proofs.lemmas.List.Elements.{All-nil, All-cons, All-head, All-tail}
use Rattle.std.proofs.lemmas.List.Kept.{AllPairs-cons, AllPairs-from_increasing}
use Rattle.std.proofs.Common.{◌≡◌, ◌≢◌, ◌⊎◌, inl, inr, ◌↔◌, ℕ, zero, suc, ◌+◌, ◌<◌, ◌≤◌, length, get_or, List, [], ◌∷◌, ◌++◌, map, All, AllPairs, Contains, refl, sym, ap, ap₂, subst, ◌∙◌, arith, length-append, eq-or-lt_of_le, zero-le}
use Rattle.integers.specs.Counting.{choices_from, choices, choose}
use Rattle.integers.proofs.Lists.{AllPairs-head, AllPairs-tail}

-- ---- membership by recursion

-- x is a member of the list
IsIn : {A : Type 0} → A → List A → Type 0
IsIn x [] = ⊥
IsIn x (y ∷ ys) = (y ≡ x) ⊎ IsIn x ys

-- from a place where it stands
IsIn-from_Contains : {A : Type 0} (x : A) (ys : List A) (k : ℕ) → k < length ys → get_or ys k x ≡ x → IsIn x ys
unfolding IsIn
IsIn-from_Contains x [] k l e = absurd (omega arith)
IsIn-from_Contains x (y ∷ ys) zero l e = inl e
IsIn-from_Contains x (y ∷ ys) (suc k) l e = inr (IsIn-from_Contains x ys k (omega arith) e)

-- the place where it stands
Contains-from_IsIn : {A : Type 0} (x : A) (ys : List A) → IsIn x ys → Contains ys x
unfolding IsIn
Contains-from_IsIn x [] m = absurd m
Contains-from_IsIn x (y ∷ ys) (inl e) = (0, omega arith, e)
Contains-from_IsIn x (y ∷ ys) (inr m) = let r = Contains-from_IsIn x ys m in (suc r.0, omega (arith, r.1), r.2)

-- ---- distinct members

-- each member is apart from all later ones
IsApart : {A : Type 0} → List A → Type 0
IsApart [] = Unit {0}
IsApart {A} (x ∷ xs) = ((z : A) → IsIn z xs → x ≢ z) × IsApart xs

-- from the same by places
IsApart-from_AllPairs : {A : Type 0} (xs : List A) → AllPairs (λ x y. x ≢ y) xs → IsApart xs
unfolding IsIn IsApart
IsApart-from_AllPairs [] h = tt
IsApart-from_AllPairs (x ∷ xs) h = (
  λ z m e. let r = Contains-from_IsIn z xs m in h 0 (suc r.0) z (omega arith) (omega (arith, r.1)) (e ∙ sym r.2),
  IsApart-from_AllPairs xs
      (AllPairs-tail (λ x y. x ≢ y) x xs h),
)

-- the list without one place where x stands: all else is still in it
without : {A : Type 0} (x : A) (ys : List A) → IsIn x ys → (zs : List A) × (length ys ≡ suc (length zs)) × ((z : A) → IsIn z ys → x ≢ z → IsIn z zs)
unfolding IsIn
without x [] m = absurd m
without x (y ∷ ys) (inl e) = (ys, refl, λ z i n. elim i [ inl e' ↦ absurd (n (sym e ∙ e')) | inr j ↦ j ])
without x (y ∷ ys) (inr m) = let r = without x ys m in (y ∷ r.0, ap suc r.1, λ z i n. elim i [ inl e' ↦ inl e' | inr j ↦ inr (r.2 z j n) ])

-- distinct members are at most as many, with membership by recursion
apart_at_most : {A : Type 0} (xs ys : List A) → IsApart xs → ((z : A) → IsIn z xs → IsIn z ys) → length xs ≤ length ys
unfolding IsIn IsApart
apart_at_most [] ys a h = zero-le
apart_at_most (x ∷ xs) ys a h =
    let r = without x ys (h x (inl refl)) in
    let rest = apart_at_most xs r.0 a.1 (λ z m. r.2 z (h z (inr m)) (a.0 z m)) in
    omega (arith, r.1)

-- distinct members of a list are at most as many as it has
pub distinct_at_most : {A : Type 0} (xs ys : List A) → AllPairs (λ x y. x ≢ y) xs → All (Contains ys) xs → length xs ≤ length ys
unfolding IsIn IsApart
distinct_at_most xs ys a h =
    apart_at_most xs ys (IsApart-from_AllPairs xs a)
    (λ z m. let r = Contains-from_IsIn z xs m in let c = subst (Contains ys) r.2 (h r.0 z r.1) in IsIn-from_Contains z ys c.0 c.1 c.2)

-- ---- rising lists

-- the numbers rise, from a on and below n
Rises : ℕ → ℕ → List ℕ → Type 0
Rises a n [] = Unit {0}
Rises a n (x ∷ xs) = (a ≤ x) × (x < n) × Rises (suc x) n xs

-- a rising list is above where it begins
Rises-above : (a b n : ℕ) (xs : List ℕ) → b ≤ a → Rises a n xs → All (λ x. b ≤ x) xs
unfolding Rises
Rises-above a b n [] l h = All-nil (λ x. b ≤ x)
Rises-above a b n (x ∷ xs) l h = All-cons (λ x. b ≤ x) x xs (omega (arith, h.0)) (Rises-above (suc x) b n xs (omega (arith, h.0)) h.2)

-- a rising list by places
Rises-pairs : (a n : ℕ) (xs : List ℕ) → Rises a n xs → AllPairs (λ x y. x < y) xs × All (λ x. x < n) xs
unfolding Rises
Rises-pairs a n [] h = (λ i j d p q. absurd (omega arith), All-nil (λ x. x < n))
Rises-pairs a n (x ∷ xs) h =
    let r = Rises-pairs (suc x) n xs h.2 in (
      AllPairs-cons (λ x y. x < y) x xs (Rises-above (suc x) (suc x) n xs (omega arith) h.2) r.0,
      All-cons
          (λ x. x < n) x xs h.1 r.1,
    )

-- from the same by places
Rises-from_pairs : (a n : ℕ) (xs : List ℕ) → All (λ x. a ≤ x) xs → AllPairs (λ x y. x < y) xs → All (λ x. x < n) xs → Rises a n xs
unfolding Rises
Rises-from_pairs a n [] l p b = tt
Rises-from_pairs a n (x ∷ xs) l p b = (
  All-head (λ x. a ≤ x) x xs l,
  All-head (λ x. x < n) x xs b,
  Rises-from_pairs (suc x) n xs (AllPairs-head (λ x y. x < y) x xs p)
      (AllPairs-tail (λ x y. x < y) x xs p) (All-tail (λ x. x < n) x xs b),
)

-- ---- the choices

-- a member of the first of two lists
IsIn-append_left : {A : Type 0} (x : A) (xs ys : List A) → IsIn x xs → IsIn x (xs ++ ys)
unfolding IsIn
IsIn-append_left x [] ys m = absurd m
IsIn-append_left x (z ∷ xs) ys (inl e) = inl e
IsIn-append_left x (z ∷ xs) ys (inr m) = inr (IsIn-append_left x xs ys m)

-- a member of the second of two lists
IsIn-append_right : {A : Type 0} (x : A) (xs ys : List A) → IsIn x ys → IsIn x (xs ++ ys)
unfolding IsIn
IsIn-append_right x [] ys m = m
IsIn-append_right x (z ∷ xs) ys m = inr (IsIn-append_right x xs ys m)

-- a member of two lists is one of the first or of the second
IsIn-append : {A : Type 0} (x : A) (xs ys : List A) → IsIn x (xs ++ ys) → IsIn x xs ⊎ IsIn x ys
unfolding IsIn
IsIn-append x [] ys m = inr m
IsIn-append x (z ∷ xs) ys (inl e) = inl (inl e)
IsIn-append x (z ∷ xs) ys (inr m) = elim (IsIn-append x xs ys m) [ inl l ↦ inl (inr l) | inr r ↦ inr r ]

-- with a number in front of each list
IsIn-map_cons : (a : ℕ) (x : List ℕ) (cs : List (List ℕ)) → IsIn x cs → IsIn (a ∷ x) (map (λ c. a ∷ c) cs)
unfolding IsIn
IsIn-map_cons a x [] m = absurd m
IsIn-map_cons a x (c ∷ cs) (inl e) = inl (ap (λ l. a ∷ l) e)
IsIn-map_cons a x (c ∷ cs) (inr m) = inr (IsIn-map_cons a x cs m)

-- the list without the number in front
IsIn-from_map_cons : (a : ℕ) (x : List ℕ) (cs : List (List ℕ)) → IsIn x (map (λ c. a ∷ c) cs) → (y : List ℕ) × IsIn y cs × (a ∷ y ≡ x)
unfolding IsIn
IsIn-from_map_cons a x [] m = absurd m
IsIn-from_map_cons a x (c ∷ cs) (inl e) = (c, inl refl, e)
IsIn-from_map_cons a x (c ∷ cs) (inr m) = let r = IsIn-from_map_cons a x cs m in (r.0, inr r.1, r.2)

-- each rising list is a choice
choices_from-member : (n a m : ℕ) (xs : List ℕ) → m ≡ a + n → Rises a m xs → IsIn xs (choices_from a n (length xs))
unfolding IsIn Rises
choices_from-member zero a m [] e h = inl refl
choices_from-member zero a m (x ∷ xs) e h = absurd (omega (arith, h.0, h.1))
choices_from-member (suc n) a m [] e h = inl refl
choices_from-member (suc n) a m (x ∷ xs) e h =
    step (eq-or-lt_of_le h.0) (λ r. choices_from-member n (suc a) m xs (omega arith) r) (λ r. choices_from-member n (suc a) m (x ∷ xs) (omega arith) r)
  where
    step : (a ≡ x) ⊎ a < x → (Rises (suc a) m xs → IsIn xs (choices_from (suc a) n (length xs)))
        → (Rises (suc a) m (x ∷ xs) → IsIn (x ∷ xs) (choices_from (suc a) n (suc (length xs))))
        → IsIn (x ∷ xs) (map (λ c. a ∷ c) (choices_from (suc a) n (length xs)) ++ choices_from (suc a) n (suc (length xs)))
    step (inl e) first later =
        IsIn-append_left (x ∷ xs) (map (λ c. a ∷ c) (choices_from (suc a) n (length xs))) (choices_from (suc a) n (suc (length xs)))
        (subst (λ y. IsIn (y ∷ xs) (map (λ c. a ∷ c) (choices_from (suc a) n (length xs)))) e
        (IsIn-map_cons a xs (choices_from (suc a) n (length xs)) (first (subst (λ y. Rises (suc y) m xs) (sym e) h.2))))
    step (inr l) first later =
        IsIn-append_right (x ∷ xs) (map (λ c. a ∷ c) (choices_from (suc a) n (length xs))) (choices_from (suc a) n (suc (length xs))) (later (l, h.1, h.2))

-- a list that rises from b on rises from below b on
Rises-weaker : (a b n : ℕ) (xs : List ℕ) → a ≤ b → Rises b n xs → Rises a n xs
unfolding Rises
Rises-weaker a b n [] l h = tt
Rises-weaker a b n (x ∷ xs) l h = (omega (arith, h.0), h.1, h.2)

-- each choice is a rising list of k numbers
member-rises : (n a m k : ℕ) (xs : List ℕ) → m ≡ a + n → IsIn xs (choices_from a n k) → Rises a m xs × (length xs ≡ k)
unfolding IsIn Rises
member-rises n a m zero xs e (inl i) = subst (λ ys. Rises a m ys × (length ys ≡ 0)) i (tt, refl)
member-rises n a m zero xs e (inr i) = absurd i
member-rises zero a m (suc k) xs e i = absurd i
member-rises (suc n) a m (suc k) xs e i =
    step (IsIn-append xs (map (λ c. a ∷ c) (choices_from (suc a) n k)) (choices_from (suc a) n (suc k)) i)
    (λ ys j. member-rises n (suc a) m k ys (omega arith) j) (λ j. member-rises n (suc a) m (suc k) xs (omega arith) j)
  where
    step : IsIn xs (map (λ c. a ∷ c) (choices_from (suc a) n k)) ⊎ IsIn xs (choices_from (suc a) n (suc k))
        → ((ys : List ℕ) → IsIn ys (choices_from (suc a) n k) → Rises (suc a) m ys × (length ys ≡ k))
        → (IsIn xs (choices_from (suc a) n (suc k)) → Rises (suc a) m xs × (length xs ≡ suc k)) → Rises a m xs × (length xs ≡ suc k)
    step (inl j) first later =
        let r = IsIn-from_map_cons a xs (choices_from (suc a) n k) j in
        let s = first r.0 r.1 in
        subst (λ ys. Rises a m ys × (length ys ≡ suc k)) r.2 ((omega arith, omega arith, s.0), ap suc s.1)
    step (inr j) first later = let s = later j in (Rises-weaker a (suc a) m xs (omega arith) s.0, s.1)

-- the choices of k of n are exactly the rising lists of k numbers below n
pub choices-members : (n k : ℕ) (xs : List ℕ) → Contains (choices n k) xs ↔ (IsStrictlyIncreasing xs × All (λ x. x < n) xs × (length xs ≡ k))
unfolding IsIn Rises
choices-members n k xs = (to, from)
  where
    to : Contains (choices n k) xs → IsStrictlyIncreasing xs × All (λ x. x < n) xs × (length xs ≡ k)
    to c =
        let r = member-rises n 0 n k xs (omega arith) (IsIn-from_Contains xs (choices n k) c.0 c.1 c.2) in
        let s = Rises-pairs 0 n xs r.0 in
        (λ i l. s.0 i (i + 1) 0 (omega arith) l, s.1, r.1)

    from : IsStrictlyIncreasing xs × All (λ x. x < n) xs × (length xs ≡ k) → Contains (choices n k) xs
    from h =
        Contains-from_IsIn xs (choices n k) (subst (λ j. IsIn xs (choices n j)) h.2
        (choices_from-member n 0 n xs (omega arith) (Rises-from_pairs 0 n xs (λ i d l. zero-le) (AllPairs-from_increasing xs h.0) h.1)))

-- as many choices from any first number on
length-choices_from : (a n k : ℕ) → length (choices_from a n k) ≡ choose n k
length-choices_from a n zero = refl
length-choices_from a zero (suc k) = refl
length-choices_from a (suc n) (suc k) =
    length-append (map (λ c. a ∷ c) (choices_from (suc a) n k)) (choices_from (suc a) n (suc k))
    ∙ ap₂ (λ x y. x + y) (length-map (choices_from (suc a) n k) (λ c. a ∷ c) ∙ length-choices_from (suc a) n k) (length-choices_from (suc a) n (suc k))

-- there are as many choices as `choose` says
pub length-choices : (n k : ℕ) → length (choices n k) ≡ choose n k
length-choices n k = length-choices_from 0 n k

-- different rising lists of k numbers below n are at most as many as there are choices
pub distinct_choices_at_most : (n k : ℕ) (sets : List (List ℕ)) → AllPairs (λ x y. x ≢ y) sets
    → All (λ s. IsStrictlyIncreasing s × All (λ x. x < n) s × (length s ≡ k)) sets → length sets ≤ choose n k
distinct_choices_at_most n k sets apart each =
    subst (λ m. length sets ≤ m) (length-choices n k)
    (distinct_at_most sets (choices n k) apart (λ i d l. (choices-members n k (get_or sets i d)).1 (each i d l)))
