-- The dot product and the other operations on lists of whole numbers: one lemma for each pair.
use lib.IntN.{+ℤ_idl, +ℤ_idr, *ℤ_comm, *ℤ-zero}
use lib.ListN.{length-set, length-replicate}
use Rattle.std.proofs.Common.{◌≡◌, ℕ, zero, suc, ◌<◌, length, get_or, set, replicate, List, [], ◌∷◌, ◌++◌, ℤ, pos, ◌+ℤ◌, ◌-ℤ◌, ◌*ℤ◌, neg_ℤ, refl, sym, ap, ap₂, ◌∙◌, arith, ext_get_or, ◌≢◌, ◌-◌}
use Rattle.std.proofs.lemmas.List.{get_or-set_same, get_or-set_other}
use Rattle.integers.specs.Vector.{dot, scale, add, row_step, weighted_sum, dot_each, unit_vector}
use Rattle.integers.proofs.Laws.{lin}
use Rattle.integers.proofs.Ring.{con, neg, ◌⊕◌, ◌⊖◌, ◌⊗◌, ◌≗◌, ◌✶◌, ◌⇐◌, ring2, ring4, ring5, combine5, combine6, combine9}
use Rattle.integers.proofs.Zeros.{get_or-zeros}

-- ---- dot, in its first argument

-- a product with the empty list is 0
pub dot-nil : (xs : List ℤ) → dot xs [] ≡ pos 0
dot-nil [] = refl
dot-nil (x ∷ xs) = refl

-- the two lists of a product change places
pub dot_comm : (xs ys : List ℤ) → dot xs ys ≡ dot ys xs
dot_comm [] ys = sym (dot-nil ys)
dot_comm (x ∷ xs) [] = refl
dot_comm (x ∷ xs) (y ∷ ys) = ap₂ (λ a b. a +ℤ b) (*ℤ_comm x y) (dot_comm xs ys)

-- a factor comes out
pub dot-scale : (c : ℤ) (xs us : List ℤ) → dot (scale c xs) us ≡ c *ℤ dot xs us
dot-scale c [] us = sym (*ℤ-zero c)
dot-scale c (x ∷ xs) [] = sym (*ℤ-zero c)
dot-scale c (x ∷ xs) (u ∷ us) =
    combine5 (λ c x u d e. c ⊗ x ⊗ u ⊕ d ≗ c ⊗ (x ⊗ u ⊕ e) ⇐ con (pos 1) ✶ (d ≗ c ⊗ e) ∷ []) refl c x u (dot (scale c xs) us) (dot xs us) (dot-scale c xs us)

-- a sum comes apart
pub dot-add : (xs ys us : List ℤ) → dot (add xs ys) us ≡ dot xs us +ℤ dot ys us
dot-add [] ys us = sym (+ℤ_idl (dot ys us))
dot-add (x ∷ xs) [] us = sym (+ℤ_idr (dot (x ∷ xs) us))
dot-add (x ∷ xs) (y ∷ ys) [] = refl
dot-add (x ∷ xs) (y ∷ ys) (u ∷ us) =
    combine6 (λ x y u d p q. (x ⊕ y) ⊗ u ⊕ d ≗ (x ⊗ u ⊕ p) ⊕ (y ⊗ u ⊕ q) ⇐ con (pos 1) ✶ (d ≗ p ⊕ q) ∷ []) refl x y u (dot (add xs ys) us) (dot xs us)
    (dot ys us) (dot-add xs ys us)

-- a row step is a sum of two scaled rows
pub row_step_lem : (p q : ℤ) (xs ys : List ℤ) → row_step p q xs ys ≡ add (scale p xs) (scale (neg_ℤ q) ys)
row_step_lem p q [] ys = refl
row_step_lem p q (x ∷ xs) [] = refl
row_step_lem p q (x ∷ xs) (y ∷ ys) = ap₂ (λ a b. a ∷ b) (ring4 (λ p q x y. p ⊗ x ⊖ q ⊗ y ≗ p ⊗ x ⊕ neg q ⊗ y) refl p q x y) (row_step_lem p q xs ys)

-- a row step comes apart
pub dot-row_step : (p q : ℤ) (xs ys us : List ℤ) → dot (row_step p q xs ys) us ≡ p *ℤ dot xs us -ℤ q *ℤ dot ys us
dot-row_step p q xs ys us =
    let apart =
    ap (λ zs. dot zs us) (row_step_lem p q xs ys) ∙ dot-add (scale p xs) (scale (neg_ℤ q) ys) us
    ∙ ap₂ (λ a b. a +ℤ b) (dot-scale p xs us) (dot-scale (neg_ℤ q) ys us) in
    apart ∙ ring4 (λ p q d e. p ⊗ d ⊕ neg q ⊗ e ≗ p ⊗ d ⊖ q ⊗ e) refl p q (dot xs us) (dot ys us)

-- the product with a weighted sum of rows is the weights' product with the rows' products
pub dot-weighted_sum : (ys : List ℤ) (rows : List (List ℤ)) (us : List ℤ) → dot (weighted_sum ys rows) us ≡ dot ys (dot_each rows us)
dot-weighted_sum [] rows us = refl
dot-weighted_sum (y ∷ ys) [] us = refl
dot-weighted_sum (y ∷ ys) (row ∷ rows) us =
    dot-add (scale y row) (weighted_sum ys rows) us ∙ ap₂ (λ a b. a +ℤ b) (dot-scale y row us) (dot-weighted_sum ys rows us)

-- lists one after the other, where the first parts are of one length
pub dot-append : (xs ys us vs : List ℤ) → length xs ≡ length us → dot (xs ++ ys) (us ++ vs) ≡ dot xs us +ℤ dot ys vs
dot-append [] ys [] vs e = sym (+ℤ_idl (dot ys vs))
dot-append [] ys (u ∷ us) vs e = absurd (omega arith)
dot-append (x ∷ xs) ys [] vs e = absurd (omega arith)
dot-append (x ∷ xs) ys (u ∷ us) vs e = let ih = dot-append xs ys us vs (omega arith) in omega (arith, lin)

-- ---- dot, in its second argument

-- a factor comes out of the second list
pub dot-scale_right : (c : ℤ) (us xs : List ℤ) → dot us (scale c xs) ≡ c *ℤ dot us xs
dot-scale_right c us xs = dot_comm us (scale c xs) ∙ dot-scale c xs us ∙ ap (λ z. c *ℤ z) (dot_comm xs us)

-- a sum in the second list comes apart
pub dot-add_right : (us xs ys : List ℤ) → dot us (add xs ys) ≡ dot us xs +ℤ dot us ys
dot-add_right us xs ys = dot_comm us (add xs ys) ∙ dot-add xs ys us ∙ ap₂ (λ a b. a +ℤ b) (dot_comm xs us) (dot_comm ys us)

-- ---- a changed entry

-- a changed coefficient
pub dot-set : (xs us : List ℤ) (i : ℕ) (a : ℤ) → i < length xs → dot (set xs i a) us ≡ dot xs us +ℤ (a -ℤ get_or xs i (pos 0)) *ℤ get_or us i (pos 0)
dot-set [] us i a h = absurd (omega arith)
dot-set (x ∷ xs) [] zero a h = sym (+ℤ_idl ((a -ℤ x) *ℤ pos 0) ∙ *ℤ-zero (a -ℤ x))
dot-set (x ∷ xs) [] (suc i) a h = sym (+ℤ_idl ((a -ℤ get_or xs i (pos 0)) *ℤ pos 0) ∙ *ℤ-zero (a -ℤ get_or xs i (pos 0)))
dot-set (x ∷ xs) (u ∷ us) zero a h = ring4 (λ a x u d. a ⊗ u ⊕ d ≗ x ⊗ u ⊕ d ⊕ (a ⊖ x) ⊗ u) refl a x u (dot xs us)
dot-set (x ∷ xs) (u ∷ us) (suc i) a h = let ih = dot-set xs us i a (omega arith) in omega (arith, lin)

-- a product with a changed second list
pub dot-set_right : (us xs : List ℤ) (i : ℕ) (a : ℤ) → i < length xs → dot us (set xs i a) ≡ dot us xs +ℤ (a -ℤ get_or xs i (pos 0)) *ℤ get_or us i (pos 0)
dot-set_right us xs i a h = dot_comm us (set xs i a) ∙ dot-set xs us i a h ∙ ap (λ z. z +ℤ (a -ℤ get_or xs i (pos 0)) *ℤ get_or us i (pos 0)) (dot_comm xs us)

-- a changed coefficient and a changed value at the same place
pub dot-set_both : (xs us : List ℤ) (i : ℕ) (a b : ℤ) → i < length xs → i < length us
    → dot (set xs i a) (set us i b) ≡ dot xs us -ℤ get_or xs i (pos 0) *ℤ get_or us i (pos 0) +ℤ a *ℤ b
dot-set_both [] us i a b h k = absurd (omega arith)
dot-set_both (x ∷ xs) [] i a b h k = absurd (omega arith)
dot-set_both (x ∷ xs) (u ∷ us) zero a b h k = ring5 (λ a b x u d. a ⊗ b ⊕ d ≗ x ⊗ u ⊕ d ⊖ x ⊗ u ⊕ a ⊗ b) refl a b x u (dot xs us)
dot-set_both (x ∷ xs) (u ∷ us) (suc i) a b h k = let ih = dot-set_both xs us i a b (omega arith) (omega arith) in omega (arith, lin)

-- ---- unit vectors

-- a product with zeros is 0
pub dot-zeros : (xs : List ℤ) (n : ℕ) → dot xs (replicate n (pos 0)) ≡ pos 0
dot-zeros [] n = refl
dot-zeros (x ∷ xs) zero = refl
dot-zeros (x ∷ xs) (suc n) = ap₂ (λ a b. a +ℤ b) (*ℤ-zero x) (dot-zeros xs n)

-- the product with a unit vector is the number at its place
pub dot-unit_vector : (xs : List ℤ) (n j : ℕ) → j < n → dot xs (unit_vector n j) ≡ get_or xs j (pos 0)
dot-unit_vector [] n j h = refl
dot-unit_vector (x ∷ xs) zero j h = absurd (omega arith)
dot-unit_vector (x ∷ xs) (suc n) zero h = ap (λ d. x *ℤ pos 1 +ℤ d) (dot-zeros xs n) ∙ ring2 (λ x y. x ⊗ con (pos 1) ⊕ con (pos 0) ≗ x) refl x x
dot-unit_vector (x ∷ xs) (suc n) (suc j) h =
    ap (λ d. x *ℤ pos 0 +ℤ d) (dot-unit_vector xs n j (omega arith)) ∙ ring2 (λ x y. x ⊗ con (pos 0) ⊕ y ≗ y) refl x (get_or xs j (pos 0))

-- a unit vector has n numbers
pub length-unit_vector : (n j : ℕ) → length (unit_vector n j) ≡ n
length-unit_vector n j = length-set (replicate n (pos 0)) j (pos 1) ∙ length-replicate n (pos 0)

-- a unit vector's number at its place
pub get_or-unit_vector : (n i : ℕ) → i < n → get_or (unit_vector n i) i (pos 0) ≡ pos 1
get_or-unit_vector n i l = get_or-set_same (replicate n (pos 0)) i (pos 1) (pos 0) (omega (arith, length-replicate n (pos 0)))

-- and at another
pub get_or-unit_vector_other : (n i j : ℕ) → j ≢ i → get_or (unit_vector n i) j (pos 0) ≡ pos 0
get_or-unit_vector_other n i j ne = get_or-set_other (replicate n (pos 0)) i j (pos 1) (pos 0) ne ∙ get_or-zeros n j

-- a unit vector is zeros, 1 and zeros
pub unit_vector-parts : (n j : ℕ) → j < n → unit_vector n j ≡ replicate j (pos 0) ++ (pos 1 ∷ replicate (n - j - 1) (pos 0))
unit_vector-parts zero j h = absurd (omega arith)
unit_vector-parts (suc n) zero h =
    let size : n ≡ suc n - 0 - 1 = omega arith in
    ap (λ k. pos 1 ∷ replicate k (pos 0)) size
unit_vector-parts (suc n) (suc j) h =
    let size : n - j - 1 ≡ suc n - suc j - 1 = omega arith in
    ap (λ l. pos 0 ∷ l) (unit_vector-parts n j (omega arith)) ∙ ap (λ k. pos 0 ∷ (replicate j (pos 0) ++ (pos 1 ∷ replicate k (pos 0)))) size

-- lists of one length with the same products with all unit vectors are the same
pub same_from_unit_vectors : (xs ys : List ℤ) → length xs ≡ length ys
    → ((j : ℕ) → j < length xs → dot xs (unit_vector (length xs) j) ≡ dot ys (unit_vector (length xs) j)) → xs ≡ ys
same_from_unit_vectors xs ys e same =
    ext_get_or (pos 0) xs ys e (λ j h. sym (dot-unit_vector xs (length xs) j h) ∙ same j h ∙ dot-unit_vector ys (length xs) j h)

-- lists of one length with the same products with all lists are the same
pub same_from_dot : (xs ys : List ℤ) → length xs ≡ length ys → ((us : List ℤ) → length us ≡ length xs → dot xs us ≡ dot ys us) → xs ≡ ys
same_from_dot xs ys e same = same_from_unit_vectors xs ys e (λ j h. same (unit_vector (length xs) j) (length-unit_vector (length xs) j))

-- ---- two numbers among zeros

-- n numbers, b at the place e, c at the place f and 0 elsewhere
abbrev pub pair : ℕ → ℕ → ℤ → ℕ → ℤ → List ℤ
pair n e b f c = set (set (replicate n (pos 0)) e b) f c

-- as many numbers as asked for
pub length-pair : (n e : ℕ) (b : ℤ) (f : ℕ) (c : ℤ) → length (pair n e b f c) ≡ n
length-pair n e b f c = length-set (set (replicate n (pos 0)) e b) f c ∙ length-set (replicate n (pos 0)) e b ∙ length-replicate n (pos 0)

-- the number at the first place
pub get_or-pair : (n e : ℕ) (b : ℤ) (f : ℕ) (c : ℤ) → e < n → e ≢ f → get_or (pair n e b f c) e (pos 0) ≡ b
get_or-pair n e b f c eb apart =
    get_or-set_other (set (replicate n (pos 0)) e b) f e c (pos 0) apart
    ∙ get_or-set_same (replicate n (pos 0)) e b (pos 0) (omega (arith, length-replicate n (pos 0)))

-- the product with two numbers and zeros
pub dot-pair : (xs : List ℤ) (n e : ℕ) (b : ℤ) (f : ℕ) (c : ℤ) → e < n → f < n → e ≢ f
    → dot xs (pair n e b f c) ≡ get_or xs e (pos 0) *ℤ b +ℤ get_or xs f (pos 0) *ℤ c
dot-pair xs n e b f c eb fb apart =
    let zeros : List ℤ = replicate n (pos 0) in
    let one : List ℤ = set zeros e b in
    let outer : dot xs (pair n e b f c) ≡ dot one xs +ℤ (c -ℤ get_or one f (pos 0)) *ℤ get_or xs f (pos 0) =
    dot_comm xs (pair n e b f c) ∙ dot-set one xs f c (omega (arith, length-set zeros e b, length-replicate n (pos 0))) in
    let inner : dot one xs ≡ dot zeros xs +ℤ (b -ℤ get_or zeros e (pos 0)) *ℤ get_or xs e (pos 0) =
    dot-set zeros xs e b (omega (arith, length-replicate n (pos 0))) in
    let none : dot zeros xs ≡ pos 0 = dot_comm zeros xs ∙ dot-zeros xs n in
    let at_f : get_or one f (pos 0) ≡ pos 0 = get_or-set_other zeros e f b (pos 0) (λ s. apart (sym s)) ∙ get_or-zeros n f in
    combine9 (λ d d1 d0 b c x y z w. d ≗ x ⊗ b ⊕ y ⊗ c
    ⇐ con (pos 1) ✶ (d ≗ d1 ⊕ (c ⊖ w) ⊗ y) ∷ con (pos 1) ✶ (d1 ≗ d0 ⊕ (b ⊖ z) ⊗ x) ∷ con (pos 1) ✶ (d0 ≗ con (pos 0)) ∷ neg y ✶ (w ≗ con (pos 0))
    ∷ neg x ✶ (z ≗ con (pos 0)) ∷ []) refl
    (dot xs (pair n e b f c)) (dot one xs) (dot zeros xs) b c (get_or xs e (pos 0)) (get_or xs f (pos 0)) (get_or zeros e (pos 0)) (get_or one f (pos 0))
    outer inner none at_f (get_or-zeros n e)

-- for `simp`: a product comes apart into products of single lists
pub ruleset dot_laws = (dot-nil, dot-scale, dot-add, dot-row_step, dot-weighted_sum, dot-scale_right, dot-add_right)
