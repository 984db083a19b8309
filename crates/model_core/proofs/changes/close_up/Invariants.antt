use Rattle.std.proofs.Common.{◌≡◌, ◌++◌, ◌-◌, map, take, drop, nat_lt, if◌then◌else◌}
use Rattle.model_core.proofs.changes.close_up.Given as goal

abbrev pub invariant-loop-number : goal.invariant-loop-number
invariant-loop-number l = l.numbers ≡ map (λ number. if nat_lt l.gone number then number - 1 else number) (take l.number-index l.initial.numbers) ++ drop l.number-index l.initial.numbers
