use Rattle.std.proofs.Common.{◌≡◌, ◌++◌, drop, ◌∷◌}
use Rattle.std.specs.Prelude.{string_bytes}
use Rattle.std.specs.List.{flat_map}
use Rattle.std.specs.Fmt.{signed_decimal}
use Rattle.report_text.proofs.refusals.push_steps.Given as goal

abbrev pub invariant-loop-step : goal.invariant-loop-step
invariant-loop-step l = string_bytes l.out ++ flat_map (λ step. 32 ∷ signed_decimal step) (drop l.step-index l.steps) ≡ string_bytes l.fn.out ++ flat_map (λ step. 32 ∷ signed_decimal step) l.steps
