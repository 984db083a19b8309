use Rattle.std.proofs.Common.{◌≡◌, ◌++◌, drop, Ok}
use Rattle.frac128.specs.Chain.{◌>>=◌}
use Rattle.value_scale.specs.Anchor.{checked_line}
use Rattle.value_scale.proofs.anchored_scale.on_line.Given as goal

abbrev pub invariant-loop-value : goal.invariant-loop-value
invariant-loop-value l = ((checked_line l.zero l.factor (drop l.value-index l.values)) >>= (λ others. Ok (l.anchored.items ++ others)))
    ≡ checked_line l.zero l.factor l.values
