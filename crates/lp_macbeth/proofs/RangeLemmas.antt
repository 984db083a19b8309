-- The rows of a matrix are rows of a problem: one number for each gap, each number in range.
use Rattle.std.proofs.Common.{◌≡◌, ℕ, ◌-◌, ◌≤◌, Bool, true, false, cond, ℤ, pos, negsuc, ◌-ℤ◌, ◌≤ℤ◌, List, ◌++◌, get_or, replicate, All, sym, subst, ◌∙◌, arith, unsigned_abs}
use Rattle.std.specs.Prelude.{nat_le, nat_lt, ◌&&◌}
use Rattle.std.proofs.lemmas.List.Elements.{All-append, All-replicate}
use Rattle.frac128.specs.Range.{IsInRange}
use Rattle.frac128.specs.Problem.{IsProblem, IsRow, problem_of}
use Rattle.frac128.specs.declared.problem.Row.{Row}
use Rattle.std.proofs.lemmas.List.{get_or_default, length-replicate}
use Rattle.std.specs.Int.Signed.{le_z_yes}
use Rattle.std.proofs.lemmas.Int.{ints}
use Rattle.judgement_matrix.specs.Matrix.{IsPair}
use Rattle.lp_macbeth.specs.Gaps.{gap_coefs, opposite}
use Rattle.lp_macbeth.specs.Rows.{cross_coefs}
use Rattle.lp_macbeth.proofs.CoefLemmas.{length-gap_coefs, length-opposite, length-cross_coefs, opposite-gap_coefs, get_or-gap_coefs, get_or-cross_coefs}

-- a number of at most 1,000,000, with either sign
pub small_in_range : (z : ℤ) → unsigned_abs z ≤ 1000000 → IsInRange z
small_in_range z h = omega arith

-- all of some copies between others
copies_in_range : (a b c : ℕ) (x : ℤ) → IsInRange x → All IsInRange (replicate a (pos 0) ++ replicate b x ++ replicate c (pos 0))
copies_in_range a b c x h =
    let zero : IsInRange (pos 0) = small_in_range (pos 0) (omega arith) in
    All-append IsInRange (replicate a (pos 0) ++ replicate b x) (replicate c (pos 0))
    (All-append IsInRange (replicate a (pos 0)) (replicate b x) (All-replicate IsInRange a (pos 0) zero) (All-replicate IsInRange b x h))
    (All-replicate IsInRange c (pos 0) zero)

pub gap_coefs_in_range : (n p q : ℕ) → All IsInRange (gap_coefs n p q)
gap_coefs_in_range n p q = copies_in_range (n - q) (q - p) (p - 1) (pos 1) (small_in_range (pos 1) (omega arith))

pub opposite_in_range : (n p q : ℕ) → All IsInRange (opposite (gap_coefs n p q))
opposite_in_range n p q = subst (All IsInRange) (sym (opposite-gap_coefs n p q))
    (copies_in_range (n - q) (q - p) (p - 1) (negsuc 0) (small_in_range (negsuc 0) (omega arith)))

-- a difference of two bits
bits_in_range : (a b : Bool) → IsInRange (cond a (pos 1) (pos 0) -ℤ cond b (pos 1) (pos 0))
bits_in_range true true = small_in_range (pos 0) (omega arith)
bits_in_range true false = small_in_range (pos 1) (omega arith)
bits_in_range false true = small_in_range (negsuc 0) (omega arith)
bits_in_range false false = small_in_range (pos 0) (omega arith)

pub cross_coefs_in_range : (n p q x y : ℕ) → IsPair n p q → IsPair n x y → All IsInRange (cross_coefs n p q x y)
cross_coefs_in_range n p q x y left right = λ k d below.
    let is : get_or (cross_coefs n p q x y) k d ≡ get_or (cross_coefs n p q x y) k (pos 0) = get_or_default (cross_coefs n p q x y) k d (pos 0) below in
    subst IsInRange (sym (is ∙ get_or-cross_coefs n p q x y k))
    (rw (get_or-gap_coefs n p q k left, get_or-gap_coefs n x y k right)
    (bits_in_range (nat_le (n - q) k && nat_lt k (n - p)) (nat_le (n - y) k && nat_lt k (n - x))))

-- the three kinds of rows
pub IsRow-difference : (n p q bound : ℕ) → IsPair n p q → bound ≤ 255 → IsRow (n - 1) (record { coefs = gap_coefs n p q; bound = pos bound })
IsRow-difference n p q bound in_n most = record {
  one_each = length-gap_coefs n p q in_n;
  coefs_in_range = gap_coefs_in_range n p q;
  bound_in_range = small_in_range (pos bound) (omega arith);
}

pub IsRow-opposite : (n p q : ℕ) → IsPair n p q → IsRow (n - 1) (record { coefs = opposite (gap_coefs n p q); bound = pos 0 })
IsRow-opposite n p q in_n = record {
  one_each = length-opposite (gap_coefs n p q) ∙ length-gap_coefs n p q in_n;
  coefs_in_range = opposite_in_range n p q;
  bound_in_range = small_in_range (pos 0) (omega arith);
}

-- a difference of two numbers below 256
bound_in_range : (lo hi : ℕ) → lo ≤ 255 → hi ≤ 255 → unsigned_abs (pos lo -ℤ pos hi) ≤ 1000000
bound_in_range lo hi low high = grind (arith, ints)

pub IsRow-cross : (n p q x y lo hi : ℕ) → IsPair n p q → IsPair n x y → lo ≤ 255 → hi ≤ 255
    → IsRow (n - 1) (record { coefs = cross_coefs n p q x y; bound = pos lo -ℤ pos hi })
IsRow-cross n p q x y lo hi left right low high = record {
  one_each = length-cross_coefs n p q x y left right;
  coefs_in_range = cross_coefs_in_range n p q x y left right;
  bound_in_range = small_in_range (pos lo -ℤ pos hi) (bound_in_range lo hi low high);
}

-- ---- a problem whose variables cost 1 each

pub IsProblem-ones : (k : ℕ) (cost : List ℤ) (rows : List Row) → cost ≡ replicate k (pos 1) → All (IsRow k) rows → IsProblem (problem_of k cost rows)
IsProblem-ones k cost rows is fit = subst (λ l. IsProblem (problem_of k l rows)) (sym is) (record {
  one_each = length-replicate k (pos 1);
  cost_nonneg = All-replicate (λ x. pos 0 ≤ℤ x) k (pos 1) (le_z_yes tt);
  cost_in_range = All-replicate IsInRange k (pos 1) (small_in_range (pos 1) (omega arith));
  rows_fit = fit;
})
