use Rattle.std.proofs.Common.{◌≡◌, drop}
use Rattle.lp_macbeth.specs.ClosedWeighting.{least_from, least_of}
use Rattle.lp_macbeth.proofs.weighting.least.Given as goal

abbrev pub invariant-loop-fraction : goal.invariant-loop-fraction
invariant-loop-fraction l = least_from l.least (drop l.fraction-index (drop 1 l.fractions)) ≡ least_of l.fractions
