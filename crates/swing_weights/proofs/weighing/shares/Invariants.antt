use Rattle.std.proofs.Common.{◌≡◌, ◌++◌, drop, Ok}
use Rattle.frac128.specs.Chain.{◌>>=◌}
use Rattle.swing_weights.specs.Weights.{checked_shares}
use Rattle.swing_weights.proofs.weighing.shares.Given as goal

abbrev pub invariant-loop-fraction : goal.invariant-loop-fraction
invariant-loop-fraction l = ((checked_shares l.total (drop l.fraction-index l.fractions)) >>= (λ others. Ok (l.shares.items ++ others))) ≡ checked_shares l.total l.fractions
