use Rattle.std.proofs.Common.{◌≡◌, ◌++◌, drop}
use Rattle.judgement_matrix.specs.Walk.{zero_rows_of}
use Rattle.lp_macbeth.proofs.tags.push_zero.Given as goal

abbrev pub invariant-loop-pair : goal.invariant-loop-pair
invariant-loop-pair l = l.tags.items ++ zero_rows_of l.matrix (drop l.pair-index l.pairs) ≡ l.fn.tags.items ++ zero_rows_of l.matrix l.pairs
