use Rattle.std.proofs.Common.{◌≡◌, ◌++◌, drop}
use Rattle.lp_macbeth.specs.Threshold.{equal_rows_of}
use Rattle.lp_macbeth.proofs.threshold_lists.push_equal.Given as goal

abbrev pub invariant-loop-pair : goal.invariant-loop-pair
invariant-loop-pair l = l.tags.items ++ equal_rows_of l.matrix (drop l.pair-index l.pairs) ≡ l.fn.tags.items ++ equal_rows_of l.matrix l.pairs
