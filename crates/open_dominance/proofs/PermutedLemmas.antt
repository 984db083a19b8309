-- Sums over all places in some order are sums over all places.
use Rattle.std.proofs.Common.{◌≡◌, ◌≢◌, ◌⊎◌, inl, inr, ℕ, zero, suc, ◌<◌, true, false, ℤ, pos, ◌+ℤ◌, ◌*ℤ◌, ◌≤ℤ◌, List, [], ◌∷◌, length, get_or, replicate, All, refl, sym, ap, ap₂, subst, ◌∙◌, arith}
use Rattle.std.specs.List.{AllByRecursion, IsDistinct}
use Rattle.std.proofs.Math.Dec.{eqb}
use Rattle.std.proofs.lemmas.Bool.{eqb-false}
use Rattle.std.proofs.lemmas.Bool.Decides.{eqb_tells}
use Rattle.std.proofs.lemmas.List.{length-replicate, get_or-replicate}
use Rattle.std.proofs.lemmas.List.Elements.{All-head, All-tail}
use Rattle.integers.specs.Counting.{IsOrder}
use Rattle.integers.specs.Vector.{dot, add, int_sum, products, unit_vector}
use Rattle.integers.proofs.Laws.{lin}
use Rattle.integers.proofs.Ring.{con, ◌⊗◌, ◌≗◌, ring1}
use Rattle.integers.proofs.Vector.{dot_comm, dot-add_right, dot-zeros, dot-unit_vector, length-unit_vector, get_or-unit_vector, get_or-unit_vector_other}
use Rattle.integers.proofs.VectorLaws.{length-add, get_or-add, int_sum-products, dot-ones}
use Rattle.integers.proofs.Zeros.{get_or-zeros}
use Rattle.lp_macbeth.specs.ClosedWeighting.{in_order}

-- how often each of the first n places stands in the list
abbrev tally : ℕ → List ℕ → List ℤ
tally n [] = replicate n (pos 0)
tally n (c ∷ order) = add (unit_vector n c) (tally n order)

length-tally : (n : ℕ) (order : List ℕ) → length (tally n order) ≡ n
length-tally n [] = length-replicate n (pos 0)
length-tally n (c ∷ order) = omega (arith, length-add (unit_vector n c) (tally n order), length-unit_vector n c, length-tally n order)

-- a sum by how often
dot-tally : (xs : List ℤ) (n : ℕ) (order : List ℕ) → All (λ c. c < n) order → dot xs (tally n order) ≡ int_sum (in_order (pos 0) order xs)
dot-tally xs n [] within = dot-zeros xs n
dot-tally xs n (c ∷ order) within =
    dot-add_right xs (unit_vector n c) (tally n order)
    ∙ ap₂ (λ x y. x +ℤ y) (dot-unit_vector xs n c (All-head (λ c. c < n) c order within)) (dot-tally xs n order (All-tail (λ c. c < n) c order within))

-- ---- a place that stands once

absent : (n i : ℕ) (order : List ℕ) → i < n → AllByRecursion (λ c. eqb i c ≡ false) order → get_or (tally n order) i (pos 0) ≡ pos 0
absent n i [] l h = get_or-zeros n i
absent n i (c ∷ order) l h =
    let rest = absent n i order l h.1 in
    get_or-add (unit_vector n c) (tally n order) i ∙ ap₂ (λ x y. x +ℤ y) (get_or-unit_vector_other n c i (λ e. (eqb-false i c h.0 e))) rest

most_once : (n i : ℕ) (order : List ℕ) → i < n → IsDistinct eqb order → get_or (tally n order) i (pos 0) ≤ℤ pos 1
unfolding IsDistinct
most_once n i [] l h = subst (λ z. z ≤ℤ pos 1) (sym (get_or-zeros n i)) (omega (arith, lin))
most_once n i (c ∷ order) l h = by_place (eqb_tells c i) (most_once n i order l h.1)
  where
    by_place : ((eqb c i ≡ true) × (c ≡ i)) ⊎ ((eqb c i ≡ false) × (c ≢ i)) → get_or (tally n order) i (pos 0) ≤ℤ pos 1
        → get_or (tally n (c ∷ order)) i (pos 0) ≤ℤ pos 1
    by_place (inl same) rest =
        let unit = ap (λ k. get_or (unit_vector n k) i (pos 0)) same.1 ∙ get_or-unit_vector n i l in
        let none = absent n i order l (subst (λ k. AllByRecursion (λ d. eqb k d ≡ false) order) same.1 h.0) in
        omega (arith, lin, get_or-add (unit_vector n c) (tally n order) i, unit, none)
    by_place (inr other) rest =
        let unit = get_or-unit_vector_other n c i (λ e. other.1 (sym e)) in
        omega (arith, lin, get_or-add (unit_vector n c) (tally n order) i, unit, rest)

-- ---- all places

-- numbers of at most 1 that sum to their count are ones
at_most_count : (xs : List ℤ) → ((i : ℕ) → i < length xs → get_or xs i (pos 0) ≤ℤ pos 1) → int_sum xs ≤ℤ pos (length xs)
at_most_count [] h = omega (arith, lin)
at_most_count (x ∷ xs) h =
    let first = h 0 (omega arith) in
    let rest = at_most_count xs (λ i l. h (suc i) (omega (arith, l))) in
    omega (arith, lin, first, rest)

all_ones : (xs : List ℤ) → ((i : ℕ) → i < length xs → get_or xs i (pos 0) ≤ℤ pos 1) → int_sum xs ≡ pos (length xs) → xs ≡ replicate (length xs) (pos 1)
all_ones [] h e = refl
all_ones (x ∷ xs) h e =
    let first = h 0 (omega arith) in
    let most = at_most_count xs (λ i l. h (suc i) (omega (arith, l))) in
    let one : x ≡ pos 1 = omega (arith, lin, first, most, e) in
    let rest : int_sum xs ≡ pos (length xs) = omega (arith, lin, first, most, e) in
    ap₂ (λ y ys. y ∷ ys) one (all_ones xs (λ i l. h (suc i) (omega (arith, l))) rest)

-- ones at all places of an order
sum_of_ones : (n : ℕ) (order : List ℕ) → All (λ c. c < n) order → int_sum (in_order (pos 0) order (replicate n (pos 1))) ≡ pos (length order)
sum_of_ones n [] within = refl
sum_of_ones n (c ∷ order) within =
    let first = get_or-replicate n c (pos 1) (pos 0) (All-head (λ c. c < n) c order within) in
    let rest = sum_of_ones n order (All-tail (λ c. c < n) c order within) in
    omega (arith, lin, first, rest)

tally_is_ones : (n : ℕ) (order : List ℕ) → IsOrder n order → tally n order ≡ replicate n (pos 1)
tally_is_ones n order o =
    let long = length-tally n order in
    let total : int_sum (tally n order) ≡ pos (length (tally n order)) =
    sym (dot-ones (tally n order)) ∙ ap (λ k. dot (tally n order) (replicate k (pos 1))) long ∙ dot_comm (tally n order) (replicate n (pos 1))
    ∙ dot-tally (replicate n (pos 1)) n order o.within ∙ sum_of_ones n order o.within ∙ ap pos (o.each ∙ sym long) in
    all_ones (tally n order) (λ i l. most_once n i order (omega (arith, l, long)) o.once) total ∙ ap (λ k. replicate k (pos 1)) long

pub sum-in_order : (xs : List ℤ) (order : List ℕ) → IsOrder (length xs) order → int_sum (in_order (pos 0) order xs) ≡ int_sum xs
sum-in_order xs order o =
    sym (dot-tally xs (length xs) order o.within) ∙ ap (λ z. dot xs z) (tally_is_ones (length xs) order o) ∙ dot-ones xs

-- ---- products

get_or-products : (xs ys : List ℤ) (i : ℕ) → get_or (products xs ys) i (pos 0) ≡ get_or xs i (pos 0) *ℤ get_or ys i (pos 0)
get_or-products [] ys i = ring1 (λ y. con (pos 0) ≗ con (pos 0) ⊗ y) refl (get_or ys i (pos 0))
get_or-products (x ∷ xs) [] i = ring1 (λ x. con (pos 0) ≗ x ⊗ con (pos 0)) refl (get_or (x ∷ xs) i (pos 0))
get_or-products (x ∷ xs) (y ∷ ys) zero = refl
get_or-products (x ∷ xs) (y ∷ ys) (suc i) = get_or-products xs ys i

products-in_order : (xs ys : List ℤ) (order : List ℕ) → products (in_order (pos 0) order xs) (in_order (pos 0) order ys) ≡ in_order (pos 0) order (products xs ys)
products-in_order xs ys [] = refl
products-in_order xs ys (c ∷ order) = ap₂ (λ z zs. z ∷ zs) (sym (get_or-products xs ys c)) (products-in_order xs ys order)

length-products : (xs ys : List ℤ) → length xs ≡ length ys → length (products xs ys) ≡ length xs
length-products [] ys e = refl
length-products (x ∷ xs) [] e = absurd (omega (arith, e))
length-products (x ∷ xs) (y ∷ ys) e = ap suc (length-products xs ys (omega (arith, e)))

-- a product doesn't depend on the order of the places
pub dot-in_order : (xs ys : List ℤ) (order : List ℕ) → length xs ≡ length ys → IsOrder (length xs) order
    → dot (in_order (pos 0) order xs) (in_order (pos 0) order ys) ≡ dot xs ys
dot-in_order xs ys order e o =
    sym (int_sum-products (in_order (pos 0) order xs) (in_order (pos 0) order ys)) ∙ ap int_sum (products-in_order xs ys order)
    ∙ sum-in_order (products xs ys) order (subst (λ n. IsOrder n order) (sym (length-products xs ys e)) o) ∙ int_sum-products xs ys
