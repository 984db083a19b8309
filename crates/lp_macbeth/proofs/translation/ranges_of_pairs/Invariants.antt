use Rattle.std.proofs.Common.{◌≡◌, ◌++◌, drop, map}
use Rattle.judgement_matrix.specs.Matrix.{range_at}
use Rattle.lp_macbeth.proofs.translation.ranges_of_pairs.Given as goal

abbrev pub invariant-loop-pair : goal.invariant-loop-pair
invariant-loop-pair l =
    l.ranges.items ++ map (λ pair. range_at l.matrix pair.0 pair.1) (drop l.pair-index l.pairs) ≡ map (λ pair. range_at l.matrix pair.0 pair.1) l.pairs
