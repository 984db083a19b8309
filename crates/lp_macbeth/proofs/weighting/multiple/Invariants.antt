use Rattle.std.proofs.Common.{◌≡◌, drop, pos}
use Rattle.lp_macbeth.specs.ClosedWeighting.{checked_multiple}
use Rattle.lp_macbeth.proofs.weighting.multiple.Given as goal

abbrev pub invariant-loop-excess : goal.invariant-loop-excess
invariant-loop-excess l = checked_multiple l.multiple (drop l.excess-index l.excesses) ≡ checked_multiple (pos 1) l.excesses
