-- The closed problem of a weighting is a problem: one number for each gap, each in range.
use Rattle.std.proofs.Common.{◌≡◌, ℕ, zero, suc, ◌+◌, ◌-◌, ◌<◌, ◌≤◌, ℤ, pos, negsuc, neg_ℤ, ◌*ℤ◌, List, [], ◌∷◌, ◌++◌, length, append-nil, All, refl, sym, ap, subst, ◌∙◌, arith}
use Rattle.std.proofs.lemmas.List.Elements.{All-nil, All-cons}
use Rattle.frac128.specs.Range.{IsInRange}
use Rattle.frac128.specs.Problem.{IsRow}
use Rattle.frac128.specs.declared.problem.Row.{Row}
use Rattle.integers.proofs.Laws.{minus_one-*ℤ}
use Rattle.judgement_matrix.specs.Matrix.{Judgements}
use Rattle.judgement_matrix.specs.Rows.{IsTagAmong}
use Rattle.judgement_matrix.specs.declared.tag.Tag.{Tag}
use Rattle.judgement_matrix.specs.declared.tag.Tag.TheVariants.{Lower, Zero, Cross, Order}
use Rattle.lp_macbeth.specs.Gaps.{opposite}
use Rattle.lp_macbeth.specs.Rows.{row_of}
use Rattle.lp_macbeth.specs.ClosedWeighting.{weighting_row_of, falling, sum_up, sum_down}
use Rattle.lp_macbeth.proofs.ClosedRowLemmas.{length-row_of, IsRow-both}
use Rattle.lp_macbeth.proofs.CoefLemmas.{length-opposite}
use Rattle.lp_macbeth.proofs.RangeLemmas.{small_in_range, gap_coefs_in_range, opposite_in_range, cross_coefs_in_range}

-- the coefficients of a tag's row
row_in_range : (m : Judgements) (tag : Tag) → IsTagAmong m.size tag → All IsInRange (row_of m tag).coefs
row_in_range m (Lower p q) h = gap_coefs_in_range m.size p q
row_in_range m (Zero p q) h = opposite_in_range m.size p q
row_in_range m (Cross p q x y) h = cross_coefs_in_range m.size p q x y h.0 h.1
row_in_range m (Order p) h = gap_coefs_in_range m.size p (p + 1)

-- a tag's constraint in unit 0
pub IsRow-weighting : (m : Judgements) (tag : Tag) → IsTagAmong m.size tag → IsRow (m.size - 1) (weighting_row_of m tag)
IsRow-weighting m tag h = record {
  one_each = length-row_of m tag h;
  coefs_in_range = row_in_range m tag h;
  bound_in_range = small_in_range (pos 0) (omega arith);
}

-- ---- the sum of the weights

pub length-falling : (k : ℕ) → length (falling k) ≡ k
length-falling zero = refl
length-falling (suc k) = ap suc (length-falling k)

falling_in_range : (k : ℕ) → k ≤ 1000000 → All IsInRange (falling k)
falling_in_range zero h = All-nil IsInRange
falling_in_range (suc k) h = All-cons IsInRange (pos (suc k)) (falling k) (small_in_range (pos (suc k)) h) (falling_in_range k (omega arith))

opposite_falling_in_range : (k : ℕ) → k ≤ 1000000 → All IsInRange (opposite (falling k))
opposite_falling_in_range zero h = All-nil IsInRange
opposite_falling_in_range (suc k) h =
    let turned : negsuc 0 *ℤ pos (suc k) ≡ negsuc k = minus_one-*ℤ (pos (suc k)) in
    All-cons IsInRange (negsuc 0 *ℤ pos (suc k)) (opposite (falling k)) (subst IsInRange (sym turned) (small_in_range (negsuc k) h))
    (opposite_falling_in_range k (omega arith))

pub sums_fit : (k : ℕ) (rows : List Row) → k ≤ 1000000 → All (IsRow k) rows → All (IsRow k) (rows ++ sum_up k ∷ sum_down k ∷ [])
sums_fit k rows most all =
    IsRow-both k rows (sum_up k) (sum_down k) all
    (record { one_each = length-falling k; coefs_in_range = falling_in_range k most; bound_in_range = small_in_range (pos 1) (omega arith) })
    (record {
      one_each = length-opposite (falling k) ∙ length-falling k;
      coefs_in_range = opposite_falling_in_range k most;
      bound_in_range = small_in_range (negsuc 0) (omega arith);
    })

-- the next number is added
pub falling-next : (i n : ℕ) → i < n → falling (n - i) ≡ pos (n - i) ∷ falling (n - (i + 1))
falling-next i n h =
    let size : n - i ≡ suc (n - (i + 1)) = omega arith in
    ap falling size ∙ ap (λ k. pos k ∷ falling (n - (i + 1))) (sym size)

-- nothing is left to add
pub falling_done : (i n : ℕ) (items all : List ℤ) → n ≤ i → items ++ falling (n - i) ≡ all → items ≡ all
falling_done i n items all past invariant =
    let none : n - i ≡ 0 = omega arith in
    sym (append-nil items) ∙ ap (λ k. items ++ falling k) (sym none) ∙ invariant

pub opposite_falling_done : (i n : ℕ) (items all : List ℤ) → n ≤ i → items ++ opposite (falling (n - i)) ≡ all → items ≡ all
opposite_falling_done i n items all past invariant =
    let none : n - i ≡ 0 = omega arith in
    sym (append-nil items) ∙ ap (λ k. items ++ opposite (falling k)) (sym none) ∙ invariant

-- the next number with the other sign is added
pub opposite_falling-next : (i n : ℕ) (z : ℤ) → i < n → z ≡ neg_ℤ (pos (n - i)) → opposite (falling (n - i)) ≡ z ∷ opposite (falling (n - (i + 1)))
opposite_falling-next i n z h is =
    ap opposite (falling-next i n h) ∙ ap (λ w. w ∷ opposite (falling (n - (i + 1)))) (minus_one-*ℤ (pos (n - i)) ∙ sym is)
