use Rattle.std.proofs.Common.{ℕ, ◌-◌, nat_lt, if◌then◌else◌, slice_set, ap, ◌∙◌}
use Rattle.integers.proofs.Loops.{map_front-done}
use Rattle.model_core.proofs.changes.close_up.Goals as goal

pub loop-number-preserved : goal.loop-number-preserved
loop-number-preserved c =
    let f : ℕ → ℕ = λ number. if nat_lt c.args.gone number then number - 1 else number in
    ap (slice_set c.loop-number.numbers c.loop-number.number-index) c.lowered.ensures
    ∙ map_front-done f c.args.numbers.now c.loop-number.numbers c.loop-number.number-index 0 c.loop-number-test.true c.loop-number.invariant
