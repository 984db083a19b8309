use Rattle.std.proofs.Common.{◌≡◌, ◌++◌, ◌-◌}
use Rattle.std.specs.List.{flat_map, range_with_len}
use Rattle.judgement_matrix.specs.Matrix.{pairs as all_pairs}
use Rattle.lp_macbeth.specs.Pairs.{row}
use Rattle.lp_macbeth.proofs.pairs.element_pairs.Given as goal

abbrev pub invariant-loop-p : goal.invariant-loop-p
invariant-loop-p l = l.pairs.items ++ flat_map (row l.n) (range_with_len l.p (l.n - l.p)) ≡ all_pairs l.n
