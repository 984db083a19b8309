use Rattle.std.proofs.Common.{◌≡◌, ◌++◌, drop}
use Rattle.lp_macbeth.specs.Threshold.{below_rows_of}
use Rattle.lp_macbeth.proofs.threshold_lists.push_below.Given as goal

abbrev pub invariant-loop-pair : goal.invariant-loop-pair
invariant-loop-pair l = l.tags.items ++ below_rows_of l.matrix (drop l.pair-index l.pairs) ≡ l.fn.tags.items ++ below_rows_of l.matrix l.pairs
