-- Matrices with one element more or less, by where each of their elements was before.
use Rattle.std.specs.Prelude.{ℕ, ◌+◌, ◌-◌, Bool, false, map, Option, Some, None, nat_lt, ◌==◌, if◌then◌else◌}
use Rattle.judgement_matrix.specs.Range.{Bounds, full}
use Rattle.judgement_matrix.specs.Matrix.{Judgements, pairs, cell_at}

-- where element q of n + 1 was among n, where element n is the new one, just above the last
abbrev pub grown_from : ℕ → ℕ → Option ℕ
grown_from n q = if nat_lt q n then Some q else (if q == n then None else Some (q - 1))

-- what is known of a pair of which one element may be new
abbrev pub old_cell : Judgements → Option ℕ → Option ℕ → Bounds × Bool
old_cell m (Some p) (Some q) = cell_at m p q
old_cell m (Some p) None = (full, false)
old_cell m None q = (full, false)

-- the cell of a pair, with a new element just above the last
abbrev pub grown_cell : Judgements → ℕ × ℕ → Bounds × Bool
grown_cell m pair = old_cell m (grown_from m.size pair.0) (grown_from m.size pair.1)

-- with a new element just above the last, whose pairs are not judged
abbrev pub grown : Judgements → Judgements
grown m = record { size = m.size + 1; cells = map (grown_cell m) (pairs (m.size + 1)) }

-- where element q was before p went
abbrev pub without_from : ℕ → ℕ → ℕ
without_from p q = if nat_lt q p then q else q + 1

-- the cell of a pair that is left after element p went
abbrev pub left_cell : Judgements → ℕ → ℕ × ℕ → Bounds × Bool
left_cell m p pair = cell_at m (without_from p pair.0) (without_from p pair.1)

-- without element p and its pairs
abbrev pub without : Judgements → ℕ → Judgements
without m p = record { size = m.size - 1; cells = map (left_cell m p) (pairs (m.size - 1)) }
