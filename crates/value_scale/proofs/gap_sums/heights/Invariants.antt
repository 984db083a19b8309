use Rattle.std.proofs.Common.{◌≡◌, ◌++◌, drop, Ok}
use Rattle.frac128.specs.Chain.{◌>>=◌}
use Rattle.value_scale.specs.GapSums.{checked_heights, checked_column}
use Rattle.value_scale.proofs.gap_sums.heights.Given as goal

abbrev pub invariant-loop-gap : goal.invariant-loop-gap
invariant-loop-gap l = ((checked_heights l.height (drop l.gap-index l.gaps)) >>= (λ above. Ok (l.heights.items ++ above))) ≡ checked_column l.gaps
