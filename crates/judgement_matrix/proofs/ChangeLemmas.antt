-- Matrices with one element more or less.
use Rattle.std.proofs.Common.{◌≡◌, ℕ, zero, suc, ◌+◌, ◌-◌, ◌<◌, ◌≤◌, Bool, false, List, [], ◌∷◌, ◌++◌, length, map, take, drop, get_or, set, Option, Some, None, All, ◌⊎◌, inl, inr, refl, sym, ap, ap₂, ◌∙◌, arith, add-one}
use Rattle.std.proofs.lemmas.Bool.Decides.{nat_tests}
use Rattle.std.proofs.lemmas.List.{length-map, get_or-map, get_or_default, length-append, length-take, length-drop}
use Rattle.std.proofs.lemmas.Bool.{cases_lt}
use Rattle.std.proofs.lemmas.List.Elements.{All-map}
use Rattle.integers.proofs.Lists.{All-get_or_else}
use Rattle.judgement_matrix.specs.Range.{Bounds, full}
use Rattle.judgement_matrix.specs.Matrix.{Judgements, IsCell, IsMatrix, IsPair, pairs, pairs_before, place, cell_at}
use Rattle.judgement_matrix.specs.Change.{old_cell, grown_cell, grown, without_from, left_cell, without}
use Rattle.judgement_matrix.specs.declared.matrix.TheConstants.{LIMIT}
use Rattle.judgement_matrix.proofs.PlaceLemmas.{place-below, place-at, get_or-place}

-- ---- a list whose front is made from other elements, and whose rest is as it was

-- no elements and some are not the same
nil_not_cons : {X : Type 0} (x : X) (xs : List X) → [] ≡ x ∷ xs → ⊥
nil_not_cons x xs h = cc

-- nothing is left of nothing
drop-nil : {X : Type 0} (i : ℕ) → drop {A = X} i [] ≡ []
drop-nil zero = refl
drop-nil (suc i) = refl

module _ {A X : Type 0} (f : X → A) where
  -- what stands behind the front
  pub front-behind : (xs : List X) (old : List A) (i j : ℕ) (d : A) → i ≤ length xs → i ≤ j → get_or (map f (take i xs) ++ drop i old) j d ≡ get_or old j d
  front-behind xs old zero j d h k = refl
  front-behind [] old (suc i) j d h k = absurd (omega arith)
  front-behind (x ∷ xs) old (suc i) zero d h k = absurd (omega arith)
  front-behind (x ∷ xs) [] (suc i) (suc j) d h k =
      ap (λ l. get_or (map f (take i xs) ++ l) j d) (sym (drop-nil i)) ∙ front-behind xs [] i j d (omega arith) (omega arith)
  front-behind (x ∷ xs) (y ∷ old) (suc i) (suc j) d h k = front-behind xs old i j d (omega arith) (omega arith)

  -- one element more
  pub front-set : (xs rest : List X) (old : List A) (i : ℕ) (x : X) → drop i xs ≡ x ∷ rest → i < length old
      → set (map f (take i xs) ++ drop i old) i (f x) ≡ map f (take (suc i) xs) ++ drop (suc i) old
  front-set xs rest [] i x h k = absurd (omega arith)
  front-set [] rest (y ∷ old) i x h k = absurd (nil_not_cons _ _ (sym (drop-nil i) ∙ h))
  front-set (z ∷ xs) rest (y ∷ old) zero x h k = cc
  front-set (z ∷ xs) rest (y ∷ old) (suc i) x h k = ap (λ l. f z ∷ l) (front-set xs rest old i x h (omega arith))

  -- all of them
  pub front-all : (xs : List X) (old : List A) → take (length xs) (map f (take (length xs) xs) ++ drop (length xs) old) ≡ map f xs
  front-all [] old = refl
  front-all (x ∷ xs) [] = ap (λ l. f x ∷ l) (ap (λ l. take (length xs) (map f (take (length xs) xs) ++ l)) (sym (drop-nil (length xs))) ∙ front-all xs [])
  front-all (x ∷ xs) (y ∷ old) = ap (λ l. f x ∷ l) (front-all xs old)

-- what is left of a list begins with the element at its place
pub drop-next : {X : Type 0} (xs rest : List X) (i : ℕ) (x : X) → drop i xs ≡ x ∷ rest → (i < length xs) × ((d : X) → get_or xs i d ≡ x) × (drop (suc i) xs ≡ rest)
drop-next [] rest i x h = absurd (nil_not_cons _ _ (sym (drop-nil i) ∙ h))
drop-next (y ∷ xs) rest zero x h = (omega arith, λ d. cc, cc)
drop-next (y ∷ xs) rest (suc i) x h = let k = drop-next xs rest i x h in (omega (arith, k.0), k.1, k.2)

-- nothing is left only past the end
pub drop-all : {X : Type 0} (xs : List X) (i : ℕ) → drop i xs ≡ [] → length xs ≤ i
drop-all [] i h = omega arith
drop-all (x ∷ xs) zero h = absurd (nil_not_cons _ _ (sym h))
drop-all (x ∷ xs) (suc i) h = omega (arith, drop-all xs i h)

-- ---- every cell is one

-- all categories are a range
pub IsCell-full : IsCell (full, false)
IsCell-full = ((omega arith, omega arith), λ _. refl)

-- the cell of any pair
pub IsCell-cell_at : (m : Judgements) (p q : ℕ) → All IsCell m.cells → IsCell (cell_at m p q)
IsCell-cell_at m p q h = All-get_or_else IsCell m.cells (place m.size p q) (full, false) IsCell-full h

-- and of one that may be new
IsCell-old_cell : (m : Judgements) (p q : Option ℕ) → All IsCell m.cells → IsCell (old_cell m p q)
IsCell-old_cell m (Some p) (Some q) h = IsCell-cell_at m p q h
IsCell-old_cell m (Some p) None h = IsCell-full
IsCell-old_cell m None q h = IsCell-full

-- a matrix with an element more
pub IsMatrix-grown : (m : Judgements) → IsMatrix m → m.size < LIMIT → IsMatrix (grown m)
IsMatrix-grown m h below = record {
  least = omega arith;
  most = omega arith;
  each = length-map (pairs (m.size + 1)) (grown_cell m);
  cells_are = All-map IsCell (grown_cell m) (pairs (m.size + 1)) (λ k d _. IsCell-old_cell m _ _ h.cells_are);
}

-- a matrix with an element less
pub IsMatrix-without : (m : Judgements) (p : ℕ) → IsMatrix m → 2 ≤ m.size → IsMatrix (without m p)
IsMatrix-without m p h above = record {
  least = omega arith;
  most = omega (arith, h.most);
  each = length-map (pairs (m.size - 1)) (left_cell m p);
  cells_are = All-map IsCell (left_cell m p) (pairs (m.size - 1)) (λ k d _. IsCell-cell_at m _ _ h.cells_are);
}

-- ---- pair by pair

-- a list of cells made pair by pair
cell_at-map : (n p q : ℕ) (f : ℕ × ℕ → Bounds × Bool) → IsPair n p q → cell_at (record { size = n; cells = map f (pairs n) }) p q ≡ f (p, q)
cell_at-map n p q f in_n =
    get_or-map f (pairs n) (place n p q) (0, 0) (full, false) (place-below n p q in_n) ∙ ap f (get_or-place n p q (0, 0) in_n)

pub cell_at-grown : (m : Judgements) (p q : ℕ) → IsPair (m.size + 1) p q → cell_at (grown m) p q ≡ grown_cell m (p, q)
cell_at-grown m p q in_n = cell_at-map (m.size + 1) p q (grown_cell m) in_n

pub cell_at-without : (m : Judgements) (p x y : ℕ) → IsPair (m.size - 1) x y → cell_at (without m p) x y ≡ left_cell m p (x, y)
cell_at-without m p x y in_n = cell_at-map (m.size - 1) x y (left_cell m p) in_n

-- ---- where the pairs that are left stood

-- a pair that is left was a pair
pub IsPair-without : (n p x y : ℕ) → 2 ≤ n → IsPair (n - 1) x y → IsPair n (without_from p x) (without_from p y)
IsPair-without n p x y above in_n = grind (arith, nat_tests)

-- fewer elements have no more pairs above a row
before_fewer : (n k : ℕ) → pairs_before (n - 1) k ≤ pairs_before n k
before_fewer n zero = omega arith
before_fewer n (suc k) = omega (arith, before_fewer n k)

-- where an element stood
from_cases : (p q : ℕ) → ((without_from p q ≡ q) × (q < p)) ⊎ ((without_from p q ≡ suc q) × (p ≤ q))
from_cases p q = elim (cases_lt q p) [ inl l ↦ inl (grind (arith, nat_tests), l) | inr g ↦ inr (grind (arith, nat_tests), g) ]

-- and not further up
pub place-without : (n p x y : ℕ) → 2 ≤ n → IsPair (n - 1) x y → place (n - 1) x y ≤ place n (without_from p x) (without_from p y)
place-without n p zero y above in_n = absurd (omega arith)
place-without n p (suc x) y above in_n =
    let one_less : suc x - 1 ≡ x = omega arith in
    let two_less : suc (suc x) - 1 ≡ suc x = omega arith in
    elim (from_cases p (suc x)) [
      | inl u ↦ elim (from_cases p y) [
        | inl l ↦ rw (u.0, l.0, one_less) (omega (arith, before_fewer n x))
        | inr l ↦ rw (u.0, l.0, one_less) (omega (arith, before_fewer n x))
      ]
      | inr u ↦ elim (from_cases p y) [
        | inl l ↦ absurd (omega (arith, u.1, l.1, in_n.1))
        | inr l ↦ rw (u.0, l.0, one_less, two_less) (omega (arith, before_fewer n x))
      ]
    ]

-- ---- the cells are moved one by one

module _ (size p i x y : ℕ) (old now : List (Bounds × Bool)) (rest : List (ℕ × ℕ)) (above : 2 ≤ size) (each : length old ≡ length (pairs size)) where
  abbrev whole : Judgements
  whole = record { size = size; cells = old }

  module _ (is : now ≡ map (left_cell whole p) (take i (pairs (size - 1))) ++ drop i old) (next : drop i (pairs (size - 1)) ≡ (x, y) ∷ rest) (in_n : IsPair (size - 1) x y) where
    -- the cell isn't written before it was read
    moved_behind : i ≤ place size (without_from p x) (without_from p y)
    moved_behind =
        let k = drop-next (pairs (size - 1)) rest i (x, y) next in
        omega (arith, place-at (size - 1) i x y k.0 (k.1 (0, 0)), place-without size p x y above in_n)

    -- the place is one of the cells
    moved_within : i < length old
    moved_within = omega (arith, each, moved_behind, place-below size _ _ (IsPair-without size p x y above in_n))

    pub moved_in_bounds : i < length now
    moved_in_bounds =
        let front = ap length is ∙ length-append (map (left_cell whole p) (take i (pairs (size - 1)))) (drop i old) in
        omega (arith, front, length-map (take i (pairs (size - 1))) (left_cell whole p), length-take i (pairs (size - 1)), length-drop i old, moved_within, (drop-next (pairs (size - 1)) rest i (x, y) next).0)

    -- the next cell is that of the pair that is left
    pub moved_next : (v : Bounds × Bool) → v ≡ get_or now (place size (without_from p x) (without_from p y)) v
        → set now i v ≡ map (left_cell whole p) (take (i + 1) (pairs (size - 1))) ++ drop (i + 1) old
    moved_next v read =
        let j = place size (without_from p x) (without_from p y) in
        let k = drop-next (pairs (size - 1)) rest i (x, y) next in
        let was : get_or now j v ≡ get_or old j v = ap (λ l. get_or l j v) is ∙ front-behind (left_cell whole p) (pairs (size - 1)) old i j v (omega (arith, k.0)) moved_behind in
        let below : j < length old = omega (arith, each, place-below size _ _ (IsPair-without size p x y above in_n)) in
        let value : v ≡ left_cell whole p (x, y) = read ∙ was ∙ get_or_default old j v (full, false) below in
        ap₂ (λ l z. set l i z) is value ∙ front-set (left_cell whole p) (pairs (size - 1)) rest old i (x, y) next moved_within
        ∙ ap (λ n. map (left_cell whole p) (take n (pairs (size - 1))) ++ drop n old) (sym (add-one i))

-- and then the rest goes
pub moved_all : (f : ℕ × ℕ → Bounds × Bool) (ps : List (ℕ × ℕ)) (old now : List (Bounds × Bool)) (i : ℕ) → now ≡ map f (take i ps) ++ drop i old
    → drop i ps ≡ [] → i ≤ length ps → take i now ≡ map f ps
moved_all f ps old now i is none within =
    let all : i ≡ length ps = omega (arith, drop-all ps i none) in
    ap (take i) is ∙ ap (λ k. take k (map f (take k ps) ++ drop k old)) all ∙ front-all f ps old
