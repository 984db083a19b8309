use Rattle.std.proofs.Common.{◌++◌, ◌+◌, ◌-◌, ap, map}
use Rattle.std.specs.List.{range_with_len}
use Rattle.integers.proofs.Loops.{push_next}
use Rattle.lp_macbeth.specs.Threshold.{step_rows}
use Rattle.lp_macbeth.specs.declared.threshold_tags.ThresholdTag.TheVariants.{Step}
use Rattle.lp_macbeth.proofs.PairLemmas.{range_with_len-next}
use Rattle.lp_macbeth.proofs.threshold_lists.push_steps.Goals as goal

pub loop-threshold-preserved : goal.loop-threshold-preserved
loop-threshold-preserved c =
    let k = c.loop-threshold.threshold in
    push_next c.loop-threshold.tags.items (c.args.tags.now.items ++ step_rows) (map (λ k. Step k) (range_with_len k (6 - k)))
    (map (λ k. Step k) (range_with_len (k + 1) (6 - (k + 1)))) c.push.new.self.items (Step k)
    c.loop-threshold.invariant (ap (map (λ k. Step k)) (range_with_len-next k 6 c.loop-threshold-test.true)) c.in_ok-push.ensures.items
