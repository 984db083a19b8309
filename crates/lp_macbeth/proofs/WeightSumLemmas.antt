-- Running sums from the one end and from the other, as products.
use lib.IntN.{zero-*ℤ}
use Rattle.std.specs.Prelude.{reverse}
use Rattle.std.proofs.Common.{◌≡◌, suc, ◌-◌, ◌<◌, ℤ, pos, ◌+ℤ◌, ◌*ℤ◌, ◌≤ℤ◌, List, [], ◌∷◌, ◌++◌, length, All, refl, sym, ap, ap₂, subst, ◌∙◌, arith}
use Rattle.std.proofs.lemmas.List.{length-reverse, reverse-append, reverse-reverse, get_or-reverse}
use Rattle.std.proofs.lemmas.List.Elements.{All-nil, All-cons, All-head, All-tail}
use Rattle.integers.specs.Vector.{dot, int_sum, running_sums, AreNonNegative}
use Rattle.integers.proofs.Laws.{lin}
use Rattle.integers.proofs.Ring.{con, neg, ◌⊕◌, ◌⊗◌, ◌≗◌, ◌✶◌, ◌⇐◌, ring3, combine6}
use Rattle.integers.proofs.Vector.{dot-append}
use Rattle.integers.proofs.VectorLaws.{int_sum-append}
use Rattle.lp_macbeth.specs.ClosedWeighting.{falling, weights_of}

-- ---- running sums

pub length-running_sums : (s : ℤ) (xs : List ℤ) → length (running_sums s xs) ≡ length xs
length-running_sums s [] = refl
length-running_sums s (x ∷ xs) = ap suc (length-running_sums (s +ℤ x) xs)

pub running_sums_nonneg : (s : ℤ) (xs : List ℤ) → pos 0 ≤ℤ s → AreNonNegative xs → AreNonNegative (running_sums s xs)
running_sums_nonneg s [] low h = All-nil (λ z. pos 0 ≤ℤ z)
running_sums_nonneg s (x ∷ xs) low h =
    let first : pos 0 ≤ℤ x = All-head (λ z. pos 0 ≤ℤ z) x xs h in
    let sum : pos 0 ≤ℤ (s +ℤ x) = omega (arith, lin, first, low) in
    All-cons (λ z. pos 0 ≤ℤ z) (s +ℤ x) (running_sums (s +ℤ x) xs) sum (running_sums_nonneg (s +ℤ x) xs sum (All-tail (λ z. pos 0 ≤ℤ z) x xs h))

running_sums-append : (s : ℤ) (xs ys : List ℤ) → running_sums s (xs ++ ys) ≡ running_sums s xs ++ running_sums (s +ℤ int_sum xs) ys
running_sums-append s [] ys = ap (λ z. running_sums z ys) (omega (arith, lin))
running_sums-append s (x ∷ xs) ys =
    let more : s +ℤ x +ℤ int_sum xs ≡ s +ℤ (x +ℤ int_sum xs) = omega (arith, lin) in
    ap (λ zs. (s +ℤ x) ∷ zs) (running_sums-append (s +ℤ x) xs ys ∙ ap (λ z. running_sums (s +ℤ x) xs ++ running_sums z ys) more)

-- ---- the other way round

pub All-reverse : {A : Type 0} (P : A → Type 0) (xs : List A) → All P xs → All P (reverse xs)
All-reverse P xs h = λ k d below.
    let within : k < length xs = omega (arith, below, length-reverse xs) in
    subst P (sym (get_or-reverse xs k d within)) (h (length xs - 1 - k) d (omega (arith, within)))

int_sum-reverse : (xs : List ℤ) → int_sum (reverse xs) ≡ int_sum xs
int_sum-reverse [] = refl
int_sum-reverse (x ∷ xs) = ap int_sum (reverse-append (x ∷ []) xs) ∙ omega (arith, lin, int_sum-append (reverse xs) (x ∷ []), int_sum-reverse xs)

dot-reverse : (xs ys : List ℤ) → length xs ≡ length ys → dot (reverse xs) (reverse ys) ≡ dot xs ys
dot-reverse [] [] h = refl
dot-reverse [] (y ∷ ys) h = absurd (omega (arith, h))
dot-reverse (x ∷ xs) [] h = absurd (omega (arith, h))
dot-reverse (x ∷ xs) (y ∷ ys) h =
    let each : length (reverse xs) ≡ length (reverse ys) = omega (arith, h, length-reverse xs, length-reverse ys) in
    ap₂ dot (reverse-append (x ∷ []) xs) (reverse-append (y ∷ []) ys)
    ∙ omega (arith, lin, dot-append (reverse xs) (x ∷ []) (reverse ys) (y ∷ []) each, dot-reverse xs ys (omega (arith, h)))

-- the sum of all from here on, at each place
abbrev tails : List ℤ → List ℤ
tails [] = []
tails (x ∷ xs) = (x +ℤ int_sum xs) ∷ tails xs

length-tails : (xs : List ℤ) → length (tails xs) ≡ length xs
length-tails [] = refl
length-tails (x ∷ xs) = ap suc (length-tails xs)

-- these are the running sums from the other end
tails-reverse : (xs : List ℤ) → reverse (running_sums (pos 0) (reverse xs)) ≡ tails xs
tails-reverse [] = refl
tails-reverse (x ∷ xs) =
    let sum : pos 0 +ℤ int_sum (reverse xs) +ℤ x ≡ x +ℤ int_sum xs = omega (arith, lin, int_sum-reverse xs) in
    ap (λ zs. reverse (running_sums (pos 0) zs)) (reverse-append (x ∷ []) xs)
    ∙ ap reverse (running_sums-append (pos 0) (reverse xs) (x ∷ []))
    ∙ reverse-append (running_sums (pos 0) (reverse xs)) (running_sums (pos 0 +ℤ int_sum (reverse xs)) (x ∷ []))
    ∙ ap₂ (λ z zs. z ∷ zs) sum (tails-reverse xs)

-- a product with running sums is one with the sums from the other end
dot-running_sums : (s : ℤ) (xs ys : List ℤ) → length xs ≡ length ys → dot (running_sums s xs) ys ≡ s *ℤ int_sum ys +ℤ dot xs (tails ys)
dot-running_sums s [] [] h = ring3 (λ s x y. con (pos 0) ≗ s ⊗ con (pos 0) ⊕ con (pos 0)) refl s s s
dot-running_sums s [] (y ∷ ys) h = absurd (omega (arith, h))
dot-running_sums s (x ∷ xs) [] h = absurd (omega (arith, h))
dot-running_sums s (x ∷ xs) (y ∷ ys) h =
    combine6 (λ s x y d t e. (s ⊕ x) ⊗ y ⊕ d ≗ s ⊗ (y ⊕ t) ⊕ (x ⊗ (y ⊕ t) ⊕ e) ⇐ con (pos 1) ✶ (d ≗ (s ⊕ x) ⊗ t ⊕ e) ∷ []) refl
    s x y (dot (running_sums (s +ℤ x) xs) ys) (int_sum ys) (dot xs (tails ys)) (dot-running_sums (s +ℤ x) xs ys (omega (arith, h)))

-- what gaps cost whose costs are the sums of numbers, top gap's first, is the numbers times the weights
pub dot-costs : (numbers x : List ℤ) → length numbers ≡ length x → dot (reverse (running_sums (pos 0) numbers)) x ≡ dot numbers (weights_of x)
dot-costs numbers x h =
    let sums : List ℤ = running_sums (pos 0) numbers in
    let each : length sums ≡ length (reverse x) = omega (arith, h, length-running_sums (pos 0) numbers, length-reverse x) in
    let there : dot (reverse sums) x ≡ dot sums (reverse x) = ap (dot (reverse sums)) (sym (reverse-reverse x)) ∙ dot-reverse sums (reverse x) each in
    let back : weights_of x ≡ tails (reverse x) = ap (λ zs. reverse (running_sums (pos 0) zs)) (sym (reverse-reverse x)) ∙ tails-reverse (reverse x) in
    let none : pos 0 *ℤ int_sum (reverse x) ≡ pos 0 = zero-*ℤ (int_sum (reverse x)) in
    there ∙ dot-running_sums (pos 0) numbers (reverse x) (omega (arith, h, length-reverse x)) ∙ omega (arith, lin, none) ∙ ap (dot numbers) (sym back)

-- ---- the sum of the weights

sum-running_sums : (s : ℤ) (xs : List ℤ) → int_sum (running_sums s xs) ≡ s *ℤ pos (length xs) +ℤ dot (falling (length xs)) xs
sum-running_sums s [] = ring3 (λ s x y. con (pos 0) ≗ s ⊗ con (pos 0) ⊕ con (pos 0)) refl s s s
sum-running_sums s (x ∷ xs) =
    let one_more : pos (suc (length xs)) ≡ pos (length xs) +ℤ pos 1 = omega (arith, lin) in
    combine6 (λ s x l m t d. s ⊕ x ⊕ t ≗ s ⊗ m ⊕ (m ⊗ x ⊕ d) ⇐ con (pos 1) ✶ (t ≗ (s ⊕ x) ⊗ l ⊕ d) ∷ neg (s ⊕ x) ✶ (m ≗ l ⊕ con (pos 1)) ∷ []) refl
    s x (pos (length xs)) (pos (suc (length xs))) (int_sum (running_sums (s +ℤ x) xs)) (dot (falling (length xs)) xs) (sum-running_sums (s +ℤ x) xs) one_more

pub sum-weights_of : (x : List ℤ) → int_sum (weights_of x) ≡ dot (falling (length x)) x
sum-weights_of x =
    let none : pos 0 *ℤ pos (length x) ≡ pos 0 = zero-*ℤ (pos (length x)) in
    int_sum-reverse (running_sums (pos 0) x) ∙ sum-running_sums (pos 0) x ∙ omega (arith, lin, none)
