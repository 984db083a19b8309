use Rattle.std.proofs.Common.{◌≡◌, ◌++◌, drop}
use Rattle.lp_macbeth.specs.ClosedThreshold.{high_rows_of}
use Rattle.lp_macbeth.proofs.closed_form.push_high.Given as goal

abbrev pub invariant-loop-pair : goal.invariant-loop-pair
invariant-loop-pair l = l.tags.items ++ high_rows_of l.matrix (drop l.pair-index l.pairs) ≡ l.fn.tags.items ++ high_rows_of l.matrix l.pairs
