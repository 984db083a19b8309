-- Lists of any elements: what holds of each, members, and the first place that passes a test.
use Rattle.std.specs.List.{filter, position_or_len}
use Rattle.std.proofs.lemmas.Bool.{true≢false, cases_lt, cond-true, cond-false, lt-ltb, le-ltb}
use Rattle.std.proofs.lemmas.List.{get_or-map, get_or_past, length-map}
use Rattle.std.proofs.lemmas.List.Elements.{Contains-append_right, All-nil, All-cons, All-head, All-tail, All-append, All-contains, All-filter, All-contains_itself, filter_passes}
use Rattle.std.proofs.lemmas.List.Sums.{position_or_len_is, fails_before_first}
use Rattle.std.proofs.Common.{◌≡◌, ◌⊎◌, inl, inr, ◌↔◌, Bool, true, false, cond, ltb, ℕ, zero, suc, ◌<◌, ◌≤◌, length, get_or, map, List, [], ◌∷◌, ◌++◌, All, AllPairs, Contains, position, Some, None, refl, sym, ap, subst, ◌∙◌, arith}

-- ---- what holds of each

-- what holds of each element of two lists in a row
pub All-parts : {A : Type 0} (P : A → Type 0) (xs ys : List A) → All P (xs ++ ys) ↔ (All P xs × All P ys)
All-parts P [] ys = (λ h. (All-nil P, h), λ h. h.1)
All-parts P (x ∷ xs) ys = let rest = All-parts P xs ys in (
  λ h. let parts = rest.0 (All-tail P x (xs ++ ys) h) in (All-cons P x xs (All-head P x (xs ++ ys) h) parts.0, parts.1),
  λ h. All-append P (x ∷ xs) ys h.0 h.1,
)

-- what holds of all that a list is made into holds of what one element is made into
pub All-get_or_map : {A B : Type 0} (P : B → Type 0) (f : A → B) (xs : List A) (i : ℕ) (d : A) → i < length xs → All P (map f xs) → P (f (get_or xs i d))
All-get_or_map P f xs i d h all = subst P (get_or-map f xs i d (f d) h) (all i (f d) (omega (arith, length-map xs f)))

-- an element, or what stands for one that isn't there
pub All-get_or_else : {A : Type 0} (P : A → Type 0) (xs : List A) (i : ℕ) (d : A) → P d → All P xs → P (get_or xs i d)
All-get_or_else P xs i d none h = elim (cases_lt i (length xs)) [ inl l ↦ h i d l | inr g ↦ subst P (sym (get_or_past xs i d g)) none ]

-- what holds of each pair holds of those of the rest
pub AllPairs-tail : {A : Type 0} (R : A → A → Type 0) (x : A) (xs : List A) → AllPairs R (x ∷ xs) → AllPairs R xs
AllPairs-tail R x xs h = λ i j d p q. h (suc i) (suc j) d (omega arith) (omega arith)

-- and of the first with each
pub AllPairs-head : {A : Type 0} (R : A → A → Type 0) (x : A) (xs : List A) → AllPairs R (x ∷ xs) → All (R x) xs
AllPairs-head R x xs h = λ j d q. h 0 (suc j) d (omega arith) (omega arith)

-- ---- members

-- an element is the first or one of the others
Contains-cons_cases : {A : Type 0} (y : A) (xs : List A) (x : A) → Contains (y ∷ xs) x → (y ≡ x) ⊎ Contains xs x
Contains-cons_cases y xs x (zero, l, e) = inl e
Contains-cons_cases y xs x (suc k, l, e) = inr (k, omega arith, e)

-- a filter keeps each element that passes
pub Contains-filter : {A : Type 0} (p : A → Bool) (xs : List A) (x : A) → Contains xs x → p x ≡ true → Contains (filter p xs) x
Contains-filter p [] x c e = c
Contains-filter {A} p (y ∷ xs) x c e = step (p y) refl (Contains-cons_cases y xs x c) (λ d. Contains-filter p xs x d e)
  where
    step : (b : Bool) → p y ≡ b → (y ≡ x) ⊎ Contains xs x → (Contains xs x → Contains (filter p xs) x) → Contains (cond b (y ∷ filter p xs) (filter p xs)) x
    step true t (inl s) rest = (0, omega arith, s)
    step true t (inr d) rest = Contains-append_right (y ∷ []) (filter p xs) x (rest d)
    step false t (inl s) rest = absurd (true≢false (sym e ∙ ap p (sym s) ∙ t))
    step false t (inr d) rest = rest d

-- what a filter keeps is of the list
pub Contains-from_filter : {A : Type 0} (p : A → Bool) (xs : List A) (x : A) → Contains (filter p xs) x → Contains xs x × (p x ≡ true)
Contains-from_filter p xs x c = (
  All-contains (Contains xs) (filter p xs) x (All-filter p (Contains xs) xs (All-contains_itself xs)) c,
  All-contains (λ y. p y ≡ true) (filter p xs) x
      (filter_passes p xs) c,
)

-- ---- the first place that passes

-- a place that passes, after places that fail, is the first that passes
pub position-is : {X : Type 0} (p : X → Bool) (xs : List X) (i : ℕ) (d : X) → i < length xs → p (get_or xs i d) ≡ true
    → ((k : ℕ) → k < i → p (get_or xs k d) ≡ false) → position p xs ≡ Some i
position-is p xs i d below passes fails =
    let e : position_or_len p xs ≡ i = position_or_len_is p xs i d (omega arith) fails (λ _. passes) in
    cond-true (ltb (position_or_len p xs) (length xs)) (Some (position_or_len p xs)) None (lt-ltb (position_or_len p xs) (length xs) (omega arith)) ∙ ap Some e

-- there is none exactly where each place fails
pub position-none : {X : Type 0} (p : X → Bool) (xs : List X) → (position p xs ≡ None) ↔ All (λ x. p x ≡ false) xs
position-none {X} p xs = (to (cases_lt (position_or_len p xs) (length xs)), from)
  where
    to : (position_or_len p xs < length xs) ⊎ (length xs ≤ position_or_len p xs) → position p xs ≡ None → All (λ x. p x ≡ false) xs
    to (inl l) e =
        let s = sym (cond-true (ltb (position_or_len p xs) (length xs)) (Some (position_or_len p xs)) None (lt-ltb (position_or_len p xs) (length xs) l))
        ∙ e in absurd (cc s)
    to (inr l) e = λ k d below. fails_before_first p xs k d (omega arith)

    from : All (λ x. p x ≡ false) xs → position p xs ≡ None
    from h = at xs h
      where
        at : (ys : List X) → All (λ x. p x ≡ false) ys → position p ys ≡ None
        at [] h = refl
        at (y ∷ ys) h =
            let e : position_or_len p (y ∷ ys) ≡ length (y ∷ ys) =
            position_or_len_is p (y ∷ ys) (length (y ∷ ys)) y (omega arith) (λ k l. h k y l) (λ l. absurd (omega arith)) in
            cond-false (ltb (position_or_len p (y ∷ ys)) (length (y ∷ ys))) (Some (position_or_len p (y ∷ ys))) None
            (le-ltb (position_or_len p (y ∷ ys)) (length (y ∷ ys)) (omega arith))
