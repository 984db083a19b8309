-- What a point of a criterion's closed problem costs.
use lib.IntN.{+ℤ_idr, zero-*ℤ}
use Rattle.std.proofs.Common.{◌≡◌, ℕ, zero, suc, ◌+◌, ◌-◌, ℤ, pos, ◌+ℤ◌, ◌-ℤ◌, List, [], ◌∷◌, ◌++◌, length, take, drop, replicate, sym, ap, ◌∙◌, arith}
use Rattle.std.proofs.lemmas.Bool.{lt-ltb, le-ltb}
use Rattle.std.proofs.lemmas.List.{take_all}
use Rattle.integers.specs.Vector.{dot, int_sum}
use Rattle.integers.proofs.Laws.{lin, one-*ℤ}
use Rattle.judgement_matrix.specs.Matrix.{IsPair}
use Rattle.judgement_matrix.specs.Scale.{difference}
use Rattle.lp_macbeth.specs.Gaps.{gap_coefs, scale_of}
use Rattle.lp_macbeth.specs.Closed.{outer_coefs, closed_cost}
use Rattle.lp_macbeth.proofs.ClosedLemmas.{dot_with_room}
use Rattle.lp_macbeth.proofs.ClosedRowLemmas.{length-outer_coefs}
use Rattle.lp_macbeth.proofs.CoefLemmas.{length-gap_coefs}
use Rattle.lp_macbeth.proofs.GapLemmas.{dot-between, dot-gap_coefs}
use Rattle.lp_macbeth.proofs.LeastLemmas.{cost_is_sum}

-- ones around zeros add up the numbers that are not between
dot-around : (a b c : ℕ) (xs : List ℤ) → length xs ≡ a + b + c
    → dot (replicate a (pos 1) ++ replicate b (pos 0) ++ replicate c (pos 1)) xs +ℤ int_sum (take b (drop a xs)) ≡ int_sum xs
dot-around zero zero c xs each = +ℤ_idr (dot (replicate c (pos 1)) xs) ∙ cost_is_sum c xs (omega (arith, each))
dot-around zero (suc b) c [] each = absurd (omega (arith, each))
dot-around zero (suc b) c (x ∷ xs) each =
    let rest = dot-around zero b c xs (omega (arith, each)) in
    let none = zero-*ℤ x in
    omega (arith, lin, rest, none)
dot-around (suc a) b c [] each = absurd (omega (arith, each))
dot-around (suc a) b c (x ∷ xs) each =
    let rest = dot-around a b c xs (omega (arith, each)) in
    let one = one-*ℤ x in
    omega (arith, lin, rest, one)

-- what is not between two elements is the whole span less their difference
dot-outer_coefs : (n : ℕ) (xs : List ℤ) (p q : ℕ) → suc (length xs) ≡ n → IsPair n p q
    → dot (outer_coefs n p q) xs ≡ difference (scale_of xs) 1 n -ℤ difference (scale_of xs) p q
dot-outer_coefs n xs p q each in_n =
    let whole : IsPair n 1 n = (omega arith, omega arith, omega arith) in
    let around = dot-around (n - q) (q - p) (p - 1) xs (omega (arith, each)) in
    let between = sym (dot-between (n - q) (q - p) (p - 1) xs) ∙ dot-gap_coefs n xs p q each in_n in
    let all = sym (dot-gap_coefs n xs 1 n each whole) ∙ dot-around_whole in
    omega (arith, lin, around, between, all)
  where
    dot-around_whole : dot (gap_coefs n 1 n) xs ≡ int_sum xs
    dot-around_whole =
        let none : n - n ≡ 0 = omega arith in
        dot-between (n - n) (n - 1) 0 xs ∙ ap (λ k. int_sum (take (n - 1) (drop k xs))) none ∙ ap int_sum (take_all (n - 1) xs (omega (arith, each)))

-- where a stands above b a point costs their difference
pub closed_cost-above : (n a b : ℕ) (x : List ℤ) (r : ℤ) → suc (length x) ≡ n → IsPair n a b
    → dot (closed_cost n a b) (x ++ r ∷ []) ≡ difference (scale_of x) a b
closed_cost-above n a b x r each in_n =
    let long : length (gap_coefs n a b) ≡ length x = length-gap_coefs n a b in_n ∙ omega (arith, each) in
    let none = zero-*ℤ r in
    let parts = dot_with_room (gap_coefs n a b) x (pos 0) r long in
    let d = dot-gap_coefs n x a b each in_n in
    rw (lt-ltb a b (omega arith)) (omega (arith, lin, parts, none, d))

-- and else their difference and what the span and the room come to
pub closed_cost-below : (n a b : ℕ) (x : List ℤ) (r : ℤ) → suc (length x) ≡ n → IsPair n b a
    → dot (closed_cost n a b) (x ++ r ∷ []) ≡ difference (scale_of x) a b +ℤ (difference (scale_of x) 1 n +ℤ r)
closed_cost-below n a b x r each in_n =
    let long : length (outer_coefs n b a) ≡ length x = length-outer_coefs n b a in_n ∙ omega (arith, each) in
    let one = one-*ℤ r in
    let parts = dot_with_room (outer_coefs n b a) x (pos 1) r long in
    let d = dot-outer_coefs n x b a each in_n in
    rw (le-ltb a b (omega arith)) (omega (arith, lin, parts, one, d))
