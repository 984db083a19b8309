-- What tells the tags of rows by their positions.
use Rattle.std.specs.Prelude.{◌≡◌, ℕ, List, ◌++◌, map, length}
use Rattle.integers.specs.Counting.{numbers_from}
use Rattle.judgement_matrix.specs.Matrix.{Judgements, pairs as all_pairs, range_at}
use Rattle.judgement_matrix.specs.Rows.{lower_rows, zero_rows, cross_rows_under}
use Rattle.lp_macbeth.specs.Pairs.{under as under_category}
use Rattle.lp_macbeth.specs.declared.row_tags.RowTables.{RowTables}

-- for each category from 0 to 6 the pairs whose ranges lie below it
abbrev pub under_lists : Judgements → List (List (ℕ × ℕ))
under_lists m = map (λ (i : ℕ). under_category m (all_pairs m.size) i) (numbers_from 0 7)

-- the pairs whose ranges lie wholly below that of a pair
abbrev pub pairs_below : Judgements → ℕ × ℕ → List (ℕ × ℕ)
pairs_below m pair = under_category m (all_pairs m.size) (range_at m pair.0 pair.1).lo

-- how many cross rows each pair has
abbrev pub cross_counts : Judgements → List ℕ
cross_counts m = map (λ left. length (cross_rows_under m left (all_pairs m.size))) (all_pairs m.size)

-- the tables are those of a matrix
pub record AreTables (m : Judgements) (t : RowTables) : Type 0 where
  pub single : t.single ≡ lower_rows m ++ zero_rows m
  pub pairs : t.pairs ≡ all_pairs m.size
  pub counts : t.counts ≡ cross_counts m
  pub under : t.under.items ≡ under_lists m
