-- Sums and multiples of lists: lengths, single numbers, and the laws that hold between them.
use lib.IntN.{+ℤ_idl, +ℤ_idr, +ℤ_comm, +ℤ_assoc, *ℤ_comm, *ℤ-zero}
use mathlib.Core.List.{cons≢nil, head-eq_of_cons-eq, tail-eq_of_cons-eq}
use Rattle.std.proofs.Common.{◌≡◌, ℕ, zero, suc, ◌<◌, ◌≤◌, All, max, length, get_or, set, replicate, map, List, [], ◌∷◌, ◌++◌, take, drop, ℤ, pos, ◌+ℤ◌, ◌-ℤ◌, ◌*ℤ◌, neg_ℤ, ◌<ℤ◌, refl, sym, ap, ap₂, ◌∙◌, arith}
use Rattle.std.proofs.lemmas.List.Elements.{All-head, All-tail}
use Rattle.integers.specs.Vector.{dot, scale, add, row_step, weighted_sum, dot_each, column_of, products, int_sum}
use Rattle.integers.proofs.Laws.{lin, *ℤ_assoc, *ℤ-+ℤ, +ℤ-*ℤ, one-*ℤ, *ℤ-one}
use Rattle.integers.proofs.Order.{cancel_eq}
use Rattle.integers.proofs.Ring.{neg, con, ◌⊕◌, ◌⊖◌, ◌⊗◌, ◌≗◌, ring2, ring3, ring4, ring5}
use Rattle.integers.proofs.Vector.{row_step_lem, dot-nil}

-- ---- lengths

-- a multiple is as long
pub length-scale : (c : ℤ) (xs : List ℤ) → length (scale c xs) ≡ length xs
length-scale c [] = refl
length-scale c (x ∷ xs) = ap suc (length-scale c xs)

-- a sum is as long as the longer list
pub length-add : (xs ys : List ℤ) → length (add xs ys) ≡ max (length xs) (length ys)
length-add [] ys = omega arith
length-add (x ∷ xs) [] = omega arith
length-add (x ∷ xs) (y ∷ ys) = omega (arith, length-add xs ys)

-- a row step is as long as the longer row
pub length-row_step : (p q : ℤ) (xs ys : List ℤ) → length (row_step p q xs ys) ≡ max (length xs) (length ys)
length-row_step p q [] ys = omega (arith, length-scale (neg_ℤ q) ys)
length-row_step p q (x ∷ xs) [] = omega (arith, length-scale p xs)
length-row_step p q (x ∷ xs) (y ∷ ys) = omega (arith, length-row_step p q xs ys)

-- a sum of rows is no longer than they are
pub length-weighted_sum : (n : ℕ) (ys : List ℤ) (rows : List (List ℤ)) → All (λ (row : List ℤ). length row ≡ n) rows → length (weighted_sum ys rows) ≤ n
length-weighted_sum n [] rows h = omega arith
length-weighted_sum n (y ∷ ys) [] h = omega arith
length-weighted_sum n (y ∷ ys) (row ∷ rows) h =
    let first = All-head (λ (row : List ℤ). length row ≡ n) row rows h in
    let rest = length-weighted_sum n ys rows (All-tail (λ (row : List ℤ). length row ≡ n) row rows h) in
    omega (arith, length-add (scale y row) (weighted_sum ys rows), length-scale y row)

-- as many products as rows
pub length-dot_each : (rows : List (List ℤ)) (us : List ℤ) → length (dot_each rows us) ≡ length rows
length-dot_each [] us = refl
length-dot_each (row ∷ rows) us = ap suc (length-dot_each rows us)

-- as many numbers as rows
pub length-column_of : (j : ℕ) (rows : List (List ℤ)) → length (column_of j rows) ≡ length rows
length-column_of j [] = refl
length-column_of j (row ∷ rows) = ap suc (length-column_of j rows)

-- ---- the number at a place

-- of a multiple
pub get_or-scale : (c : ℤ) (xs : List ℤ) (i : ℕ) → get_or (scale c xs) i (pos 0) ≡ c *ℤ get_or xs i (pos 0)
get_or-scale c [] i = sym (*ℤ-zero c)
get_or-scale c (x ∷ xs) zero = refl
get_or-scale c (x ∷ xs) (suc i) = get_or-scale c xs i

-- of a sum
pub get_or-add : (xs ys : List ℤ) (i : ℕ) → get_or (add xs ys) i (pos 0) ≡ get_or xs i (pos 0) +ℤ get_or ys i (pos 0)
get_or-add [] ys i = omega (arith, lin)
get_or-add (x ∷ xs) [] i = sym (+ℤ_idr (get_or (x ∷ xs) i (pos 0)))
get_or-add (x ∷ xs) (y ∷ ys) zero = refl
get_or-add (x ∷ xs) (y ∷ ys) (suc i) = get_or-add xs ys i

-- of a row step
pub get_or-row_step : (p q : ℤ) (xs ys : List ℤ) (i : ℕ) → get_or (row_step p q xs ys) i (pos 0) ≡ p *ℤ get_or xs i (pos 0) -ℤ q *ℤ get_or ys i (pos 0)
get_or-row_step p q xs ys i =
    let apart =
    ap (λ zs. get_or zs i (pos 0)) (row_step_lem p q xs ys) ∙ get_or-add (scale p xs) (scale (neg_ℤ q) ys) i
    ∙ ap₂ (λ a b. a +ℤ b) (get_or-scale p xs i) (get_or-scale (neg_ℤ q) ys i) in
    apart ∙ ring4 (λ p q d e. p ⊗ d ⊕ neg q ⊗ e ≗ p ⊗ d ⊖ q ⊗ e) refl p q (get_or xs i (pos 0)) (get_or ys i (pos 0))

-- a number of a weighted sum is the weights' product with a column
pub get_or-weighted_sum : (ys : List ℤ) (rows : List (List ℤ)) (j : ℕ) → get_or (weighted_sum ys rows) j (pos 0) ≡ dot ys (column_of j rows)
get_or-weighted_sum [] rows j = refl
get_or-weighted_sum (y ∷ ys) [] j = refl
get_or-weighted_sum (y ∷ ys) (row ∷ rows) j =
    get_or-add (scale y row) (weighted_sum ys rows) j ∙ ap₂ (λ a b. a +ℤ b) (get_or-scale y row j) (get_or-weighted_sum ys rows j)

-- of a column: a number of a row
pub get_or-column_of : (j : ℕ) (rows : List (List ℤ)) (i : ℕ) → get_or (column_of j rows) i (pos 0) ≡ get_or (get_or rows i []) j (pos 0)
get_or-column_of j [] i = refl
get_or-column_of j (row ∷ rows) zero = refl
get_or-column_of j (row ∷ rows) (suc i) = get_or-column_of j rows i

-- of the rows' products: the product of a row
pub get_or-dot_each : (rows : List (List ℤ)) (us : List ℤ) (i : ℕ) → get_or (dot_each rows us) i (pos 0) ≡ dot (get_or rows i []) us
get_or-dot_each [] us i = refl
get_or-dot_each (row ∷ rows) us zero = refl
get_or-dot_each (row ∷ rows) us (suc i) = get_or-dot_each rows us i

-- ---- laws of sums and multiples

-- the empty list adds nothing
pub add-nil : (xs : List ℤ) → add xs [] ≡ xs
add-nil [] = refl
add-nil (x ∷ xs) = refl

-- summands change places
pub add_comm : (xs ys : List ℤ) → add xs ys ≡ add ys xs
add_comm [] ys = sym (add-nil ys)
add_comm (x ∷ xs) [] = refl
add_comm (x ∷ xs) (y ∷ ys) = ap₂ (λ a b. a ∷ b) (+ℤ_comm x y) (add_comm xs ys)

-- sums may be bracketed at will
pub add_assoc : (xs ys zs : List ℤ) → add (add xs ys) zs ≡ add xs (add ys zs)
add_assoc [] ys zs = refl
add_assoc (x ∷ xs) [] zs = refl
add_assoc (x ∷ xs) (y ∷ ys) [] = refl
add_assoc (x ∷ xs) (y ∷ ys) (z ∷ zs) = ap₂ (λ a b. a ∷ b) (+ℤ_assoc x y z) (add_assoc xs ys zs)

-- a factor goes into a sum
pub scale-add : (c : ℤ) (xs ys : List ℤ) → scale c (add xs ys) ≡ add (scale c xs) (scale c ys)
scale-add c [] ys = refl
scale-add c (x ∷ xs) [] = refl
scale-add c (x ∷ xs) (y ∷ ys) = ap₂ (λ a b. a ∷ b) (*ℤ-+ℤ c x y) (scale-add c xs ys)

-- a multiple of a multiple
pub scale-scale : (c d : ℤ) (xs : List ℤ) → scale c (scale d xs) ≡ scale (c *ℤ d) xs
scale-scale c d [] = refl
scale-scale c d (x ∷ xs) = ap₂ (λ a b. a ∷ b) (sym (*ℤ_assoc c d x)) (scale-scale c d xs)

-- once the list
pub scale-one : (xs : List ℤ) → scale (pos 1) xs ≡ xs
scale-one [] = refl
scale-one (x ∷ xs) = ap₂ (λ a b. a ∷ b) (one-*ℤ x) (scale-one xs)

-- a multiple of two lists in a row
pub scale-append : (c : ℤ) (xs ys : List ℤ) → scale c (xs ++ ys) ≡ scale c xs ++ scale c ys
scale-append c [] ys = refl
scale-append c (x ∷ xs) ys = ap (λ zs. (c *ℤ x) ∷ zs) (scale-append c xs ys)

-- a multiple is a `map`
pub scale-map : (c : ℤ) (xs : List ℤ) → scale c xs ≡ map (λ x. c *ℤ x) xs
scale-map c [] = refl
scale-map c (x ∷ xs) = ap (λ zs. (c *ℤ x) ∷ zs) (scale-map c xs)

-- a multiple of a changed list
pub scale-set : (c : ℤ) (xs : List ℤ) (i : ℕ) (a : ℤ) → scale c (set xs i a) ≡ set (scale c xs) i (c *ℤ a)
scale-set c [] i a = refl
scale-set c (x ∷ xs) zero a = refl
scale-set c (x ∷ xs) (suc i) a = ap (λ zs. (c *ℤ x) ∷ zs) (scale-set c xs i a)

-- a positive factor is cancelled from lists
pub scale_cancel : (c : ℤ) (xs ys : List ℤ) → pos 0 <ℤ c → scale c xs ≡ scale c ys → xs ≡ ys
scale_cancel c [] [] p e = refl
scale_cancel c [] (y ∷ ys) p e = absurd (cons≢nil (sym e))
scale_cancel c (x ∷ xs) [] p e = absurd (cons≢nil e)
scale_cancel c (x ∷ xs) (y ∷ ys) p e =
    ap₂ (λ a b. a ∷ b) (cancel_eq x y c p (*ℤ_comm x c ∙ head-eq_of_cons-eq e ∙ *ℤ_comm c y)) (scale_cancel c xs ys p (tail-eq_of_cons-eq e))

-- a multiple of a row step takes both factors as often
pub scale-row_step : (c p q : ℤ) (xs ys : List ℤ) → scale c (row_step p q xs ys) ≡ row_step (p *ℤ c) (q *ℤ c) xs ys
scale-row_step c p q [] ys = scale-scale c (neg_ℤ q) ys ∙ ap (λ z. scale z ys) (ring2 (λ c q. c ⊗ neg q ≗ neg (q ⊗ c)) refl c q)
scale-row_step c p q (x ∷ xs) [] =
    ap₂ (λ z zs. z ∷ zs) (ring3 (λ c p x. c ⊗ (p ⊗ x) ≗ (p ⊗ c) ⊗ x) refl c p x) (scale-scale c p xs ∙ ap (λ z. scale z xs) (*ℤ_comm c p))
scale-row_step c p q (x ∷ xs) (y ∷ ys) =
    ap₂ (λ z zs. z ∷ zs) (ring5 (λ c p q x y. c ⊗ (p ⊗ x ⊖ q ⊗ y) ≗ (p ⊗ c) ⊗ x ⊖ (q ⊗ c) ⊗ y) refl c p q x y) (scale-row_step c p q xs ys)

-- the row step with 0 and with a number of the other sign in one place has the number's multiple there
pub row_step-set : (p q : ℤ) (xs ys : List ℤ) (e : ℕ) (y : ℤ) → length xs ≡ length ys → e < length xs
    → row_step p q (set xs e (pos 0)) (set ys e (neg_ℤ y)) ≡ set (row_step p q xs ys) e (q *ℤ y)
row_step-set p q [] ys e y same h = absurd (omega arith)
row_step-set p q (a ∷ xs) [] e y same h = absurd (omega arith)
row_step-set p q (a ∷ xs) (b ∷ ys) zero y same h = ap (λ z. z ∷ row_step p q xs ys) (ring3 (λ p q y. p ⊗ con (pos 0) ⊖ q ⊗ neg y ≗ q ⊗ y) refl p q y)
row_step-set p q (a ∷ xs) (b ∷ ys) (suc e) y same h = ap (λ zs. (p *ℤ a -ℤ q *ℤ b) ∷ zs) (row_step-set p q xs ys e y (omega arith) (omega arith))

-- a sum of factors
pub scale_sum : (c d : ℤ) (xs : List ℤ) → scale (c +ℤ d) xs ≡ add (scale c xs) (scale d xs)
scale_sum c d [] = refl
scale_sum c d (x ∷ xs) = ap₂ (λ a b. a ∷ b) (+ℤ-*ℤ c d x) (scale_sum c d xs)

-- the two middle lists of a sum of sums change places
pub add_swap : (xs ys us vs : List ℤ) → add (add xs ys) (add us vs) ≡ add (add xs us) (add ys vs)
add_swap xs ys us vs =
    add_assoc xs ys (add us vs) ∙ ap (add xs) (sym (add_assoc ys us vs) ∙ ap (λ zs. add zs vs) (add_comm ys us) ∙ add_assoc us ys vs)
    ∙ sym (add_assoc xs us (add ys vs))

-- a factor of all weights comes out
pub weighted_sum-scale : (c : ℤ) (ys : List ℤ) (rows : List (List ℤ)) → weighted_sum (scale c ys) rows ≡ scale c (weighted_sum ys rows)
weighted_sum-scale c [] rows = refl
weighted_sum-scale c (y ∷ ys) [] = refl
weighted_sum-scale c (y ∷ ys) (row ∷ rows) =
    ap₂ add (sym (scale-scale c y row)) (weighted_sum-scale c ys rows) ∙ sym (scale-add c (scale y row) (weighted_sum ys rows))

-- a sum of weights comes apart
pub weighted_sum-add : (ys zs : List ℤ) (rows : List (List ℤ)) → weighted_sum (add ys zs) rows ≡ add (weighted_sum ys rows) (weighted_sum zs rows)
weighted_sum-add [] zs rows = refl
weighted_sum-add (y ∷ ys) [] rows = sym (add-nil (weighted_sum (y ∷ ys) rows))
weighted_sum-add (y ∷ ys) (z ∷ zs) [] = refl
weighted_sum-add (y ∷ ys) (z ∷ zs) (row ∷ rows) =
    ap₂ add (scale_sum y z row) (weighted_sum-add ys zs rows) ∙ add_swap (scale y row) (scale z row) (weighted_sum ys rows) (weighted_sum zs rows)

-- ---- sums

-- the sum of two lists in a row
pub int_sum-append : (xs ys : List ℤ) → int_sum (xs ++ ys) ≡ int_sum xs +ℤ int_sum ys
int_sum-append [] ys = sym (+ℤ_idl (int_sum ys))
int_sum-append (x ∷ xs) ys = ap (λ z. x +ℤ z) (int_sum-append xs ys) ∙ sym (+ℤ_assoc x (int_sum xs) (int_sum ys))

-- a factor comes out of a sum
pub int_sum-scale : (c : ℤ) (xs : List ℤ) → int_sum (scale c xs) ≡ c *ℤ int_sum xs
int_sum-scale c [] = sym (*ℤ-zero c)
int_sum-scale c (x ∷ xs) = ap (λ z. c *ℤ x +ℤ z) (int_sum-scale c xs) ∙ sym (*ℤ-+ℤ c x (int_sum xs))

-- the sum of sums at each place
pub int_sum-add : (xs ys : List ℤ) → int_sum (add xs ys) ≡ int_sum xs +ℤ int_sum ys
int_sum-add [] ys = sym (+ℤ_idl (int_sum ys))
int_sum-add (x ∷ xs) [] = sym (+ℤ_idr (x +ℤ int_sum xs))
int_sum-add (x ∷ xs) (y ∷ ys) = let ih = int_sum-add xs ys in omega (arith, lin)

-- a dot product is the sum of the products
pub int_sum-products : (xs ys : List ℤ) → int_sum (products xs ys) ≡ dot xs ys
int_sum-products [] ys = refl
int_sum-products (x ∷ xs) [] = refl
int_sum-products (x ∷ xs) (y ∷ ys) = ap (λ z. x *ℤ y +ℤ z) (int_sum-products xs ys)

-- the product with ones is the sum
pub dot-ones : (xs : List ℤ) → dot xs (replicate (length xs) (pos 1)) ≡ int_sum xs
dot-ones [] = refl
dot-ones (x ∷ xs) = ap₂ (λ a b. a +ℤ b) (*ℤ-one x) (dot-ones xs)

-- a product in two parts, before the place i and from there on
pub dot-split : (i : ℕ) (xs us : List ℤ) → dot xs us ≡ dot (take i xs) (take i us) +ℤ dot (drop i xs) (drop i us)
dot-split zero xs us = sym (+ℤ_idl (dot xs us))
dot-split (suc i) [] us = refl
dot-split (suc i) (x ∷ xs) [] = sym (+ℤ_idl (dot (drop i xs) []) ∙ dot-nil (drop i xs))
dot-split (suc i) (x ∷ xs) (u ∷ us) =
    ap (λ z. x *ℤ u +ℤ z) (dot-split i xs us) ∙ sym (+ℤ_assoc (x *ℤ u) (dot (take i xs) (take i us)) (dot (drop i xs) (drop i us)))

-- for `simp` and `omega`: the lengths
pub ruleset length_laws = (length-scale, length-add, length-row_step, length-dot_each, length-column_of)

-- for `simp`: the number at a place
pub ruleset get_or_laws = (get_or-scale, get_or-add, get_or-row_step, get_or-weighted_sum, get_or-column_of, get_or-dot_each)
