-- Gaps and the scales that they make: each difference of the scale is a sum of gaps, and the gaps are the scale's own.
use lib.IntN.{+ℤ_assoc, +ℤ_idl, zero-*ℤ}
use Rattle.std.proofs.Math.Seq.{take-nil}
use Rattle.std.specs.Prelude.{reverse}
use Rattle.std.proofs.Common.{◌≡◌, ℕ, zero, suc, ◌+◌, ◌-◌, ◌<◌, ◌≤◌, ℤ, pos, ◌+ℤ◌, ◌-ℤ◌, List, [], ◌∷◌, ◌++◌, length, take, drop, get_or, replicate, refl, sym, ap, ap₂, subst, ◌∙◌, arith, zero-add, suc-add}
use Rattle.std.proofs.lemmas.List.{get_or-reverse, length-reverse, reverse-reverse}
use Rattle.integers.specs.Vector.{dot, int_sum}
use Rattle.integers.proofs.Laws.{lin, one-*ℤ}
use Rattle.integers.proofs.Vector.{dot-zeros, dot_comm}
use Rattle.judgement_matrix.specs.Matrix.{IsPair}
use Rattle.judgement_matrix.specs.Scale.{value_at, difference}
use Rattle.lp_macbeth.specs.Gaps.{gap_coefs, heights, scale_of, steps, gaps_of}

-- ---- a difference is a sum of gaps

-- ones after zeros add up the numbers between
pub dot-between : (a b c : ℕ) (xs : List ℤ) → dot (replicate a (pos 0) ++ replicate b (pos 1) ++ replicate c (pos 0)) xs ≡ int_sum (take b (drop a xs))
dot-between zero zero c xs = dot_comm (replicate c (pos 0)) xs ∙ dot-zeros xs c
dot-between zero (suc b) c [] = refl
dot-between zero (suc b) c (x ∷ xs) = ap₂ (λ y s. y +ℤ s) (one-*ℤ x) (dot-between zero b c xs)
dot-between (suc a) b c [] = sym (ap int_sum (take-nil b))
dot-between (suc a) b c (x ∷ xs) = ap₂ (λ y s. y +ℤ s) (zero-*ℤ x) (dot-between a b c xs) ∙ +ℤ_idl (int_sum (take b (drop a xs)))

-- a number of gaps from the bottom in two parts
int_sum-take_parts : (a b : ℕ) (xs : List ℤ) → int_sum (take (a + b) xs) ≡ int_sum (take a xs) +ℤ int_sum (take b (drop a xs))
int_sum-take_parts zero b xs = ap (λ k. int_sum (take k xs)) (zero-add b) ∙ sym (+ℤ_idl (int_sum (take b xs)))
int_sum-take_parts (suc a) b [] = ap int_sum (take-nil (suc a + b)) ∙ sym (+ℤ_idl (int_sum (take b [])) ∙ ap int_sum (take-nil b))
int_sum-take_parts (suc a) b (x ∷ xs) = ap (λ k. int_sum (take k (x ∷ xs))) (suc-add a b) ∙ ap (λ s. x +ℤ s) (int_sum-take_parts a b xs)
    ∙ sym (+ℤ_assoc x (int_sum (take a xs)) (int_sum (take b (drop a xs))))

-- as many heights as elements
pub length-heights : (a : ℤ) (xs : List ℤ) → length (heights a xs) ≡ suc (length xs)
length-heights a [] = refl
length-heights a (x ∷ xs) = ap suc (length-heights (a +ℤ x) xs)

-- a height is the sum of the gaps below it
get_or-heights : (a : ℤ) (xs : List ℤ) (k : ℕ) → k ≤ length xs → get_or (heights a xs) k (pos 0) ≡ a +ℤ int_sum (take k xs)
get_or-heights a [] zero h = omega (arith, lin)
get_or-heights a [] (suc k) h = absurd (omega arith)
get_or-heights a (x ∷ xs) zero h = omega (arith, lin)
get_or-heights a (x ∷ xs) (suc k) h = omega (arith, lin, get_or-heights (a +ℤ x) xs k (omega arith))

-- an element's number is the sum of the gaps below it
pub value_at-scale_of : (xs : List ℤ) (p : ℕ) → 1 ≤ p → p ≤ suc (length xs) → value_at (scale_of xs) p ≡ int_sum (take (suc (length xs) - p) xs)
value_at-scale_of xs p least most =
    let below : p - 1 < length (heights (pos 0) xs) = omega (arith, length-heights (pos 0) xs) in
    let place : length (heights (pos 0) xs) - 1 - (p - 1) ≡ suc (length xs) - p = omega (arith, length-heights (pos 0) xs) in
    get_or-reverse (heights (pos 0) xs) (p - 1) (pos 0) below ∙ ap (λ k. get_or (heights (pos 0) xs) k (pos 0)) place
    ∙ get_or-heights (pos 0) xs (suc (length xs) - p) (omega arith) ∙ omega (arith, lin)

-- a difference is the sum of the gaps between
pub dot-gap_coefs : (n : ℕ) (xs : List ℤ) (p q : ℕ) → suc (length xs) ≡ n → IsPair n p q → dot (gap_coefs n p q) xs ≡ difference (scale_of xs) p q
dot-gap_coefs n xs p q each in_n =
    let above : value_at (scale_of xs) p ≡ int_sum (take (suc (length xs) - p) xs) = value_at-scale_of xs p in_n.0 (omega arith) in
    let below : value_at (scale_of xs) q ≡ int_sum (take (suc (length xs) - q) xs) = value_at-scale_of xs q (omega arith) (omega arith) in
    let parts : (n - q) + (q - p) ≡ n - p = omega arith in
    let split : int_sum (take (n - p) xs) ≡ int_sum (take (n - q) xs) +ℤ int_sum (take (q - p) (drop (n - q) xs)) =
    subst (λ k. int_sum (take k xs) ≡ int_sum (take (n - q) xs) +ℤ int_sum (take (q - p) (drop (n - q) xs))) parts
    (int_sum-take_parts (n - q) (q - p) xs) in
    let high : value_at (scale_of xs) p ≡ int_sum (take (n - p) xs) = above ∙ ap (λ k. int_sum (take (k - p) xs)) each in
    let low : value_at (scale_of xs) q ≡ int_sum (take (n - q) xs) = below ∙ ap (λ k. int_sum (take (k - q) xs)) each in
    omega (arith, lin, high, low, split, dot-between (n - q) (q - p) (p - 1) xs)

-- ---- gaps and heights, the one from the other

-- the steps of heights are the gaps
steps-heights : (a : ℤ) (xs : List ℤ) → steps (heights a xs) ≡ xs
steps-heights a [] = refl
steps-heights a (x ∷ []) = ap (λ y. y ∷ []) (omega (arith, lin))
steps-heights a (x ∷ y ∷ ys) = ap₂ (λ z zs. z ∷ zs) (omega (arith, lin)) (steps-heights (a +ℤ x) (y ∷ ys))

-- the heights of steps are the numbers
heights-steps : (a : ℤ) (ys : List ℤ) → heights a (steps (a ∷ ys)) ≡ a ∷ ys
heights-steps a [] = refl
heights-steps a (y ∷ ys) =
    let up : a +ℤ (y -ℤ a) ≡ y = omega (arith, lin) in
    ap (λ zs. a ∷ zs) (ap (λ z. heights z (steps (y ∷ ys))) up ∙ heights-steps y ys)

-- the gaps of the scale that gaps make
pub gaps_of-scale_of : (xs : List ℤ) → gaps_of (scale_of xs) ≡ xs
gaps_of-scale_of xs = ap steps (reverse-reverse (heights (pos 0) xs)) ∙ steps-heights (pos 0) xs

-- a list with 0 last is the scale that its gaps make
scale_of-steps : (hs : List ℤ) → 0 < length hs → get_or hs 0 (pos 0) ≡ pos 0 → scale_of (steps hs) ≡ reverse hs
scale_of-steps [] h last = absurd (omega arith)
scale_of-steps (a ∷ hs) h last = ap (λ z. reverse (heights z (steps (a ∷ hs)))) (sym last) ∙ ap reverse (heights-steps a hs)

pub scale_of-gaps_of : (w : List ℤ) → 0 < length w → value_at w (length w) ≡ pos 0 → scale_of (gaps_of w) ≡ w
scale_of-gaps_of w h last =
    let long : 0 < length (reverse w) = omega (arith, length-reverse w) in
    let bottom : get_or (reverse w) 0 (pos 0) ≡ pos 0 = get_or-reverse w 0 (pos 0) h ∙ ap (λ k. get_or w k (pos 0)) (omega arith) ∙ last in
    scale_of-steps (reverse w) long bottom ∙ reverse-reverse w

-- one gap less than numbers
length-steps : (xs : List ℤ) → length (steps xs) ≡ length xs - 1
length-steps [] = refl
length-steps (x ∷ []) = refl
length-steps (x ∷ y ∷ ys) = ap suc (length-steps (y ∷ ys)) ∙ omega arith

pub length-gaps_of : (w : List ℤ) → length (gaps_of w) ≡ length w - 1
length-gaps_of w = length-steps (reverse w) ∙ ap (λ k. k - 1) (length-reverse w)

-- one element more than gaps
pub length-scale_of : (xs : List ℤ) → length (scale_of xs) ≡ suc (length xs)
length-scale_of xs = length-reverse (heights (pos 0) xs) ∙ length-heights (pos 0) xs

-- each gap is the difference of two neighbours
