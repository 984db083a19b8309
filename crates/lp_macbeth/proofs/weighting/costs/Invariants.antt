use Rattle.std.proofs.Common.{◌≡◌, ◌++◌, drop, pos, Ok}
use Rattle.frac128.specs.Chain.{◌>>=◌}
use Rattle.lp_macbeth.specs.ClosedWeighting.{checked_sums, in_order}
use Rattle.lp_macbeth.proofs.weighting.costs.Given as goal

abbrev pub invariant-loop-criterion : goal.invariant-loop-criterion
invariant-loop-criterion l =
    ((checked_sums l.total (in_order (pos 0) (drop l.criterion-index l.order) l.numerators)) >>= (λ others. Ok (l.costs.items ++ others))) ≡ checked_sums
    (pos 0) (in_order (pos 0) l.order l.numerators)
