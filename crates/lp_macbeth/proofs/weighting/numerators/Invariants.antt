use Rattle.std.proofs.Common.{◌≡◌, ◌++◌, drop, Ok}
use Rattle.frac128.specs.Chain.{◌>>=◌}
use Rattle.lp_macbeth.specs.ClosedWeighting.{checked_numerators}
use Rattle.lp_macbeth.proofs.weighting.numerators.Given as goal

abbrev pub invariant-loop-excess : goal.invariant-loop-excess
invariant-loop-excess l = ((checked_numerators l.scale (drop l.excess-index l.excesses)) >>= (λ others. Ok (l.numerators.items ++ others)))
    ≡ checked_numerators l.scale l.excesses
