use Rattle.std.proofs.Common.{◌≡◌, ◌++◌, drop}
use Rattle.judgement_matrix.specs.Walk.{cross_rows_of}
use Rattle.lp_macbeth.proofs.tags.push_cross.Given as goal

abbrev pub invariant-loop-pair : goal.invariant-loop-pair
invariant-loop-pair l = l.tags.items ++ cross_rows_of l.matrix (drop l.pair-index l.pairs) l.pairs ≡ l.fn.tags.items ++ cross_rows_of l.matrix l.pairs l.pairs
