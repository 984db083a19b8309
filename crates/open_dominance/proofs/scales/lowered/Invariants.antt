use Rattle.std.proofs.Common.{◌≡◌, ◌++◌, drop, Ok}
use Rattle.frac128.specs.Checked.{◌>>=◌}
use Rattle.open_dominance.specs.Gap.{checked_lowered}
use Rattle.open_dominance.proofs.scales.lowered.Given as goal

abbrev pub invariant-loop-value : goal.invariant-loop-value
invariant-loop-value l = ((checked_lowered l.zero (drop l.value-index l.values)) >>= (λ others. Ok (l.lowered.items ++ others))) ≡ checked_lowered l.zero l.values
