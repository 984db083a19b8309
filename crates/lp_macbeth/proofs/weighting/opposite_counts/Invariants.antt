use Rattle.std.proofs.Common.{◌≡◌, ◌++◌, ◌-◌}
use Rattle.lp_macbeth.specs.ClosedWeighting.{falling}
use Rattle.lp_macbeth.specs.Gaps.{opposite}
use Rattle.lp_macbeth.proofs.weighting.opposite_counts.Given as goal

abbrev pub invariant-loop-gap : goal.invariant-loop-gap
invariant-loop-gap l = l.counts.items ++ opposite (falling (l.count - l.gap)) ≡ opposite (falling l.count)
