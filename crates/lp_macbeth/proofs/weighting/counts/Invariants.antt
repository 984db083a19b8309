use Rattle.std.proofs.Common.{◌≡◌, ◌++◌, ◌-◌}
use Rattle.lp_macbeth.specs.ClosedWeighting.{falling}
use Rattle.lp_macbeth.proofs.weighting.counts.Given as goal

abbrev pub invariant-loop-gap : goal.invariant-loop-gap
invariant-loop-gap l = l.counts.items ++ falling (l.count - l.gap) ≡ falling l.count
