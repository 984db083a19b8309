use Rattle.std.proofs.Common.{◌≡◌, ◌++◌, ◌-◌, map}
use Rattle.std.specs.List.{range_with_len}
use Rattle.lp_macbeth.specs.Threshold.{step_rows}
use Rattle.lp_macbeth.specs.declared.threshold_tags.ThresholdTag.TheVariants.{Step}
use Rattle.lp_macbeth.proofs.threshold_lists.push_steps.Given as goal

abbrev pub invariant-loop-threshold : goal.invariant-loop-threshold
invariant-loop-threshold l = l.tags.items ++ map (λ k. Step k) (range_with_len l.threshold (6 - l.threshold)) ≡ l.fn.tags.items ++ step_rows
