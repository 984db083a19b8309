use Rattle.std.proofs.Common.{◌≡◌, ◌++◌, ◌-◌, drop, map, All}
use Rattle.frac128.specs.Problem.{IsRow}
use Rattle.lp_macbeth.specs.ClosedWeighting.{weighting_row_of}
use Rattle.lp_macbeth.proofs.weighting.push_compared.Given as goal

abbrev pub invariant-loop-tag : goal.invariant-loop-tag
invariant-loop-tag l = record {
  rows : l.rows.items ++ map (weighting_row_of l.matrix) (drop l.tag-index l.tags) ≡ l.fn.rows.items ++ map (weighting_row_of l.matrix) l.tags;
  fit : All (IsRow (l.matrix.size - 1)) l.rows.items;
}
