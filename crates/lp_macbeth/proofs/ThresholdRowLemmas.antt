-- The rows of a threshold problem: the thresholds' coefficients piece by piece, and that each is a row of a problem.
use Rattle.std.proofs.Common.{◌≡◌, ℕ, zero, suc, ◌+◌, ◌-◌, ◌≤◌, ℤ, pos, negsuc, neg_ℤ, List, ◌++◌, length, replicate, All, append_assoc, refl, sym, ap, subst, ◌∙◌, arith, unsigned_abs}
use Rattle.std.proofs.lemmas.List.{length-append, length-replicate, length-set}
use Rattle.std.proofs.lemmas.List.Elements.{All-append, All-replicate, All-set}
use Rattle.frac128.specs.Range.{IsInRange}
use Rattle.frac128.specs.Problem.{IsRow}
use Rattle.integers.proofs.VectorLaws.{length-add}
use Rattle.judgement_matrix.specs.Matrix.{IsPair}
use Rattle.lp_macbeth.specs.Gaps.{gap_coefs, opposite}
use Rattle.lp_macbeth.specs.Threshold.{threshold, threshold_step}
use Rattle.lp_macbeth.proofs.CoefLemmas.{pieces, length-gap_coefs, length-opposite}
use Rattle.lp_macbeth.proofs.RangeLemmas.{small_in_range, gap_coefs_in_range, opposite_in_range}

-- ---- the coefficients, piece by piece

threshold-parts : (k : ℕ) (c : ℤ) → 1 ≤ k → k ≤ 5 → threshold k c ≡ replicate (k - 1) (pos 0) ++ replicate 1 c ++ replicate (5 - k) (pos 0)
threshold-parts zero c low high = absurd (omega arith)
threshold-parts (suc zero) c low high = refl
threshold-parts (suc (suc zero)) c low high = refl
threshold-parts (suc (suc (suc zero))) c low high = refl
threshold-parts (suc (suc (suc (suc zero)))) c low high = refl
threshold-parts (suc (suc (suc (suc (suc zero))))) c low high = refl
threshold-parts (suc (suc (suc (suc (suc (suc k)))))) c low high = absurd (omega arith)

threshold_step-parts : (k : ℕ) → 2 ≤ k → k ≤ 5 → threshold_step k ≡ replicate (k - 2) (pos 0) ++ replicate 1 (negsuc 0) ++ replicate 1 (pos 1) ++ replicate
    (5 - k) (pos 0)
threshold_step-parts zero low high = absurd (omega arith)
threshold_step-parts (suc zero) low high = absurd (omega arith)
threshold_step-parts (suc (suc zero)) low high = refl
threshold_step-parts (suc (suc (suc zero))) low high = refl
threshold_step-parts (suc (suc (suc (suc zero)))) low high = refl
threshold_step-parts (suc (suc (suc (suc (suc zero))))) low high = refl
threshold_step-parts (suc (suc (suc (suc (suc (suc k)))))) low high = absurd (omega arith)

pub threshold_pieces : (k : ℕ) (c : ℤ) (old one two three : List ℤ) → 1 ≤ k → k ≤ 5 → one ≡ old ++ replicate (k - 1) (pos 0) → two ≡ one ++ replicate 1 c
    → three ≡ two ++ replicate (5 - k) (pos 0) → three ≡ old ++ threshold k c
threshold_pieces k c old one two three low high a b d =
    pieces old one two three (replicate (k - 1) (pos 0)) (replicate 1 c) (replicate (5 - k) (pos 0)) a b d
    ∙ ap (λ l. old ++ l) (sym (threshold-parts k c low high))

pub threshold_step_pieces : (k : ℕ) (old one two three four : List ℤ) → 2 ≤ k → k ≤ 5 → one ≡ old ++ replicate (k - 2) (pos 0)
    → two ≡ one ++ replicate 1 (negsuc 0) → three ≡ two ++ replicate 1 (pos 1) → four ≡ three ++ replicate (5 - k) (pos 0) → four ≡ old ++ threshold_step k
threshold_step_pieces k old one two three four low high a b d e =
    e ∙ ap (λ l. l ++ replicate (5 - k) (pos 0)) (pieces old one two three (replicate (k - 2) (pos 0)) (replicate 1 (negsuc 0)) (replicate 1 (pos 1)) a b d)
    ∙ append_assoc old (replicate (k - 2) (pos 0) ++ replicate 1 (negsuc 0) ++ replicate 1 (pos 1)) (replicate (5 - k) (pos 0))
    ∙ ap (λ l. old ++ l) (sym (threshold_step-parts k low high))

-- ---- rows of a problem

pub length-threshold : (k : ℕ) (c : ℤ) → length (threshold k c) ≡ 5
length-threshold zero c = refl
length-threshold (suc k) c = length-set (replicate 5 (pos 0)) k c

pub length-threshold_step : (k : ℕ) → length (threshold_step k) ≡ 5
length-threshold_step k = length-add (threshold k (pos 1)) (threshold (k - 1) (negsuc 0))
    ∙ omega (arith, length-threshold k (pos 1), length-threshold (k - 1) (negsuc 0))

zeros_in_range : (n : ℕ) → All IsInRange (replicate n (pos 0))
zeros_in_range n = All-replicate IsInRange n (pos 0) (small_in_range (pos 0) (omega arith))

threshold_in_range : (k : ℕ) (c : ℤ) → IsInRange c → All IsInRange (threshold k c)
threshold_in_range zero c h = zeros_in_range 5
threshold_in_range (suc k) c h = All-set IsInRange (replicate 5 (pos 0)) k c h (zeros_in_range 5)

threshold_step_in_range : (k : ℕ) → 2 ≤ k → k ≤ 5 → All IsInRange (threshold_step k)
threshold_step_in_range k low high =
    let parts = All-append IsInRange (replicate (k - 2) (pos 0) ++ replicate 1 (negsuc 0) ++ replicate 1 (pos 1)) (replicate (5 - k) (pos 0))
    (All-append IsInRange (replicate (k - 2) (pos 0) ++ replicate 1 (negsuc 0)) (replicate 1 (pos 1))
    (All-append IsInRange (replicate (k - 2) (pos 0)) (replicate 1 (negsuc 0)) (zeros_in_range (k - 2))
    (All-replicate IsInRange 1 (negsuc 0) (small_in_range (negsuc 0) (omega arith))))
    (All-replicate IsInRange 1 (pos 1) (small_in_range (pos 1) (omega arith)))) (zeros_in_range (5 - k)) in
    subst (All IsInRange) (sym (threshold_step-parts k low high)) parts

-- a row of two parts
both_parts : (n : ℕ) (xs ts : List ℤ) (bound : ℤ) → length xs ≡ n - 1 → length ts ≡ 5 → All IsInRange xs → All IsInRange ts → IsInRange bound
    → IsRow (n - 1 + 5) (record { coefs = xs ++ ts; bound = bound })
both_parts n xs ts bound first second a b h = record {
  one_each = length-append xs ts ∙ omega (arith, first, second);
  coefs_in_range = All-append IsInRange xs ts a b;
  bound_in_range = h;
}

pub IsRow-at : (n p q lo : ℕ) → IsPair n p q → lo ≤ 6 → IsRow (n - 1 + 5) (record { coefs = gap_coefs n p q ++ threshold (lo - 1) (negsuc 0); bound = pos lo })
IsRow-at n p q lo in_n most =
    both_parts n (gap_coefs n p q) (threshold (lo - 1) (negsuc 0)) (pos lo) (length-gap_coefs n p q in_n) (length-threshold (lo - 1) (negsuc 0))
    (gap_coefs_in_range n p q) (threshold_in_range (lo - 1) (negsuc 0) (small_in_range (negsuc 0) (omega arith))) (small_in_range (pos lo) (omega arith))

pub IsRow-equal : (n p q : ℕ) → IsPair n p q → IsRow (n - 1 + 5) (record { coefs = opposite (gap_coefs n p q) ++ threshold 0 (pos 0); bound = pos 0 })
IsRow-equal n p q in_n =
    both_parts n (opposite (gap_coefs n p q)) (threshold 0 (pos 0)) (pos 0) (length-opposite (gap_coefs n p q) ∙ length-gap_coefs n p q in_n)
    (length-threshold 0 (pos 0))
    (opposite_in_range n p q) (zeros_in_range 5) (small_in_range (pos 0) (omega arith))

-- the opposite of a small number
opposite_small : (hi : ℕ) → hi ≤ 5 → unsigned_abs (neg_ℤ (pos hi)) ≤ 1000000
opposite_small zero h = omega arith
opposite_small (suc hi) h = omega arith

pub IsRow-below : (n p q hi : ℕ) → IsPair n p q → hi ≤ 5
    → IsRow (n - 1 + 5) (record { coefs = opposite (gap_coefs n p q) ++ threshold hi (pos 1); bound = neg_ℤ (pos hi) })
IsRow-below n p q hi in_n most =
    both_parts n (opposite (gap_coefs n p q)) (threshold hi (pos 1)) (neg_ℤ (pos hi)) (length-opposite (gap_coefs n p q) ∙ length-gap_coefs n p q in_n)
    (length-threshold hi (pos 1))
    (opposite_in_range n p q) (threshold_in_range hi (pos 1) (small_in_range (pos 1) (omega arith))) (small_in_range (neg_ℤ (pos hi)) (opposite_small hi most))

pub IsRow-step : (n k : ℕ) → 2 ≤ k → k ≤ 5 → IsRow (n - 1 + 5) (record { coefs = replicate (n - 1) (pos 0) ++ threshold_step k; bound = pos 0 })
IsRow-step n k low high =
    both_parts n (replicate (n - 1) (pos 0)) (threshold_step k) (pos 0) (length-replicate (n - 1) (pos 0)) (length-threshold_step k)
    (zeros_in_range (n - 1)) (threshold_step_in_range k low high) (small_in_range (pos 0) (omega arith))
