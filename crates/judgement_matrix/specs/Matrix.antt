-- A matrix of judgements: a size n and, for each pair (p, q) with 1 ≤ p < q ≤ n in pair order, a range and whether it was judged.
use Rattle.std.specs.Prelude.{◌≡◌, All, ℕ, zero, suc, ◌+◌, ◌-◌, ◌<◌, ◌≤◌, Bool, true, false, List, map, length, replicate, slice_index_or, slice_set}
use Rattle.std.specs.List.{flat_map, range_with_len}
use Rattle.judgement_matrix.specs.Range.{Bounds, IsRange, full}
use Rattle.judgement_matrix.specs.declared.matrix.TheConstants.{LIMIT}

-- the judgements as the contracts see them, the cells in pair order
pub record Judgements : Type 0 where
  pub size : ℕ
  pub cells : List (Bounds × Bool)

-- a matrix may have n elements
abbrev pub IsSize : ℕ → Type 0
IsSize n = (1 ≤ n) × (n ≤ LIMIT)

-- p stands above q among n elements
abbrev pub IsPair : ℕ → ℕ → ℕ → Type 0
IsPair n p q = (1 ≤ p) × (p < q) × (q ≤ n)

-- the pairs in pair order: (1,2), (1,3), up to (1,n), then (2,3), and so on
abbrev pub pairs : ℕ → List (ℕ × ℕ)
pairs n = flat_map (λ p. map (λ q. (p, q)) (range_with_len (p + 1) (n - p))) (range_with_len 1 (n - 1))

-- a cell has a range, which is the full one where the pair is unjudged
abbrev pub IsCell : Bounds × Bool → Type 0
IsCell cell = IsRange cell.0 × (cell.1 ≡ false → cell.0 ≡ full)

-- what a matrix keeps: as many elements as it may have, and a cell for each pair
pub record IsMatrix (m : Judgements) : Type 0 where
  pub least : 1 ≤ m.size
  pub most : m.size ≤ LIMIT
  pub each : length m.cells ≡ length (pairs m.size)
  pub cells_are : All IsCell m.cells

-- how many pairs have one of the first k elements as their upper one
abbrev pub pairs_before : ℕ → ℕ → ℕ
pairs_before n zero = 0
pairs_before n (suc k) = pairs_before n k + (n - suc k)

-- the place of a pair in pair order, from 0
abbrev pub place : ℕ → ℕ → ℕ → ℕ
place n p q = pairs_before n (p - 1) + (q - p - 1)

-- the range of a pair, and whether it was judged
abbrev pub cell_at : Judgements → ℕ → ℕ → Bounds × Bool
cell_at m p q = slice_index_or m.cells (place m.size p q) (full, false)

-- the range of a pair
abbrev pub range_at : Judgements → ℕ → ℕ → Bounds
range_at m p q = (cell_at m p q).0

-- nothing is judged
abbrev pub unjudged : ℕ → Judgements
unjudged n = record { size = n; cells = replicate (length (pairs n)) (full, false) }

-- the same judgements but for one pair, which is judged so
abbrev pub judged : Judgements → ℕ → ℕ → Bounds → Judgements
judged m p q range = record { size = m.size; cells = slice_set m.cells (place m.size p q) (range, true) }

-- the same judgements but for one pair, which is not judged
abbrev pub cleared : Judgements → ℕ → ℕ → Judgements
cleared m p q = record { size = m.size; cells = slice_set m.cells (place m.size p q) (full, false) }
