use Rattle.std.proofs.Common.{◌≡◌, ◌++◌, ◌-◌, ◌+◌, drop, map, All}
use Rattle.frac128.specs.Problem.{IsRow}
use Rattle.lp_macbeth.specs.Threshold.{threshold_row_of}
use Rattle.lp_macbeth.proofs.threshold.rows_of.Given as goal

abbrev pub invariant-loop-tag : goal.invariant-loop-tag
invariant-loop-tag l = record {
  rows : l.rows.items ++ map (threshold_row_of l.matrix) (drop l.tag-index l.tags) ≡ map (threshold_row_of l.matrix) l.tags;
  fit : All (IsRow (l.matrix.size - 1 + 5)) l.rows.items;
}
