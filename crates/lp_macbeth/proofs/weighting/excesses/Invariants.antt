use Rattle.std.proofs.Common.{◌≡◌, ◌++◌, drop, Ok}
use Rattle.frac128.specs.Chain.{◌>>=◌}
use Rattle.lp_macbeth.specs.ClosedWeighting.{checked_excesses}
use Rattle.lp_macbeth.proofs.weighting.excesses.Given as goal

abbrev pub invariant-loop-gap : goal.invariant-loop-gap
invariant-loop-gap l = ((checked_excesses l.least (drop l.gap-index l.gaps)) >>= (λ others. Ok (l.excesses.items ++ others))) ≡ checked_excesses l.least l.gaps
