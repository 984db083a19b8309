-- What holds of each element, of lists made from others.
use Rattle.std.proofs.Common.{◌≡◌, ℕ, zero, suc, ◌+◌, ◌-◌, ◌<◌, ◌≤◌, Bool, true, false, cond, List, [], ◌∷◌, ◌++◌, ◌⊎◌, inl, inr, map, refl, subst, arith}
use Rattle.std.proofs.lemmas.Bool.{false≢true, cases_lt}
use Rattle.std.specs.List.{AllByRecursion, filter, flat_map, range_with_len}
use Rattle.judgement_matrix.specs.Matrix.{IsPair, pairs}
use Rattle.judgement_matrix.proofs.PlaceLemmas.{row}

-- two lists, one after the other
pub every-append : {X : Type 0} (P : X → Type 0) (xs ys : List X) → AllByRecursion P xs → AllByRecursion P ys → AllByRecursion P (xs ++ ys)
every-append P [] ys h k = k
every-append P (x ∷ xs) ys h k = (h.0, every-append P xs ys h.1 k)

-- the first of two lists
pub every-append_left : {X : Type 0} (P : X → Type 0) (xs ys : List X) → AllByRecursion P (xs ++ ys) → AllByRecursion P xs
every-append_left P [] ys h = tt
every-append_left P (x ∷ xs) ys h = (h.0, every-append_left P xs ys h.1)

-- the second of two lists
pub every-append_right : {X : Type 0} (P : X → Type 0) (xs ys : List X) → AllByRecursion P (xs ++ ys) → AllByRecursion P ys
every-append_right P [] ys h = h
every-append_right P (x ∷ xs) ys h = every-append_right P xs ys h.1

-- the images of a list
pub every-map : {X Y : Type 0} (P : Y → Type 0) (f : X → Y) (xs : List X) → AllByRecursion (λ x. P (f x)) xs → AllByRecursion P (map f xs)
every-map P f [] h = tt
every-map P f (x ∷ xs) h = (h.0, every-map P f xs h.1)

-- and back
pub every_from_map : {X Y : Type 0} (P : Y → Type 0) (f : X → Y) (xs : List X) → AllByRecursion P (map f xs) → AllByRecursion (λ x. P (f x)) xs
every_from_map P f [] h = tt
every_from_map P f (x ∷ xs) h = (h.0, every_from_map P f xs h.1)

-- the part of a list that passes a test
pub every-filter : {X : Type 0} (P : X → Type 0) (t : X → Bool) (xs : List X) → AllByRecursion (λ x. t x ≡ true → P x) xs → AllByRecursion P (filter t xs)
every-filter P t [] h = tt
every-filter {X} P t (x ∷ xs) h =
    let G : Bool → Type 0 = λ b. (b ≡ true → P x) → AllByRecursion P (cond b (x ∷ filter t xs) (filter t xs)) in
    let by_test : G (t x) = elim (t x) as G [ true ↦ λ k. (k refl, every-filter P t xs h.1) | false ↦ λ k. every-filter P t xs h.1 ] in
    by_test h.0

-- and back
pub every_from_filter : {X : Type 0} (P : X → Type 0) (t : X → Bool) (xs : List X) → AllByRecursion P (filter t xs) → AllByRecursion (λ x. t x ≡ true → P x) xs
every_from_filter P t [] h = tt
every_from_filter {X} P t (x ∷ xs) h =
    let G : Bool → Type 0 = λ b. AllByRecursion P (cond b (x ∷ filter t xs) (filter t xs)) → (b ≡ true → P x) × AllByRecursion (λ y. t y ≡ true → P y) xs in
    let by_test : G (t x) = elim (t x) as G [ true ↦ λ k. (λ e. k.0, every_from_filter P t xs k.1) | false ↦ λ k. (λ e. absurd (false≢true e), every_from_filter P t xs k) ] in
    by_test h

-- pieces, one after the other
pub every-flat_map : {X Y : Type 0} (P : Y → Type 0) (f : X → List Y) (xs : List X) → AllByRecursion (λ x. AllByRecursion P (f x)) xs
    → AllByRecursion P (flat_map f xs)
every-flat_map P f [] h = tt
every-flat_map P f (x ∷ xs) h = every-append P (f x) (flat_map f xs) h.0 (every-flat_map P f xs h.1)

-- and back
pub every_from_flat_map : {X Y : Type 0} (P : Y → Type 0) (f : X → List Y) (xs : List X) → AllByRecursion P (flat_map f xs)
    → AllByRecursion (λ x. AllByRecursion P (f x)) xs
every_from_flat_map P f [] h = tt
every_from_flat_map P f (x ∷ xs) h =
    (every-append_left P (f x) (flat_map f xs) h, every_from_flat_map P f xs (every-append_right P (f x) (flat_map f xs) h))

-- at a, or past it
from_or_past : (a k : ℕ) → a ≤ k → (a ≡ k) ⊎ (a + 1 ≤ k)
from_or_past a k h = elim (cases_lt a k) [ inl l ↦ inr (omega arith) | inr g ↦ inl (omega arith) ]

-- n numbers from a on
pub every-range : (P : ℕ → Type 0) (a n : ℕ) → ((k : ℕ) → a ≤ k → k < a + n → P k) → AllByRecursion P (range_with_len a n)
every-range P a zero h = tt
every-range P a (suc n) h =
    (h a (omega arith) (omega arith), every-range P (a + 1) n (λ k low high. h k (omega arith) (omega arith)))

-- one of those numbers
pub every_in_range : (P : ℕ → Type 0) (a n k : ℕ) → AllByRecursion P (range_with_len a n) → a ≤ k → k < a + n → P k
every_in_range P a zero k h low high = absurd (omega arith)
every_in_range P a (suc n) k h low high =
    elim (from_or_past a k low) [ inl e ↦ subst P e h.0 | inr l ↦ every_in_range P (a + 1) n k h.1 (omega arith) (omega arith) ]

-- each pair
pub every-pairs : (n : ℕ) (P : ℕ → ℕ → Type 0) → ((p q : ℕ) → IsPair n p q → P p q) → AllByRecursion (λ pair. P pair.0 pair.1) (pairs n)
every-pairs n P h =
    let Q : ℕ × ℕ → Type 0 = λ pair. P pair.0 pair.1 in
    every-flat_map Q (row n) (range_with_len 1 (n - 1))
    (every-range (λ p. AllByRecursion Q (row n p)) 1 (n - 1)
    (λ p low high. every-map Q (λ q. (p, q)) (range_with_len (p + 1) (n - p))
    (every-range (λ q. P p q) (p + 1) (n - p) (λ q above within. h p q (omega arith, omega arith, omega arith)))))

-- one pair
pub every_at_pair : (n : ℕ) (P : ℕ → ℕ → Type 0) → AllByRecursion (λ pair. P pair.0 pair.1) (pairs n) → (p q : ℕ) → IsPair n p q → P p q
every_at_pair n P h p q in_n =
    let Q : ℕ × ℕ → Type 0 = λ pair. P pair.0 pair.1 in
    let rows = every_from_flat_map Q (row n) (range_with_len 1 (n - 1)) h in
    let in_row = every_in_range (λ a. AllByRecursion Q (row n a)) 1 (n - 1) p rows (omega arith) (omega arith) in
    let each = every_from_map Q (λ b. (p, b)) (range_with_len (p + 1) (n - p)) in_row in
    every_in_range (λ b. P p b) (p + 1) (n - p) q each (omega arith) (omega arith)

-- a fact that follows from another
pub every_weaker : {X : Type 0} (P Q : X → Type 0) → ((x : X) → P x → Q x) → (xs : List X) → AllByRecursion P xs → AllByRecursion Q xs
every_weaker P Q f [] h = tt
every_weaker P Q f (x ∷ xs) h = (f x h.0, every_weaker P Q f xs h.1)
