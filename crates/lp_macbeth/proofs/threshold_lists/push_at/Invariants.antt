use Rattle.std.proofs.Common.{◌≡◌, ◌++◌, drop}
use Rattle.lp_macbeth.specs.Threshold.{at_rows_of}
use Rattle.lp_macbeth.proofs.threshold_lists.push_at.Given as goal

abbrev pub invariant-loop-pair : goal.invariant-loop-pair
invariant-loop-pair l = l.tags.items ++ at_rows_of l.matrix (drop l.pair-index l.pairs) ≡ l.fn.tags.items ++ at_rows_of l.matrix l.pairs
