use Rattle.value_scale.specs.GapSums.{checked_column}
use Rattle.value_scale.proofs.ChainLemmas.{rest_item, heights_start, heights_next, heights_stop, heights_done, too_wide}
use Rattle.value_scale.proofs.gap_sums.heights.Goals as goal

pub loop-gap-init : goal.loop-gap-init
loop-gap-init c = heights_start c.args.gaps.now c.whole-height.result c.new-heights.result.items c.push.new.self.items c.whole-height.ensures
    c.new-heights.ensures.items c.in_ok-push.ensures.items

pub loop-gap-preserved : goal.loop-gap-preserved
loop-gap-preserved c =
    let gaps = c.args.gaps.now in
    let here = c.loop-gap in
    heights_next gaps here.gap-index here.height c.gap-item.result c.in_ok-height.height here.heights.items c.push-in-loop-gap.new.self.items
    (checked_column gaps) (rest_item gaps here.gap-index c.gap-item.result c.loop-gap-test.true c.gap-item.is) c.in_ok-height.ensures.is
    c.in_ok-push-2.ensures.items here.invariant

pub returns-in_err-height : goal.returns-in_err-height
returns-in_err-height c =
    let gaps = c.args.gaps.now in
    let here = c.loop-gap in
    too_wide (λ v. v.items) (checked_column gaps) c.in_err-height.field-0.0 c.from_residual-in_err-height.result c.from_residual-in_err-height.ensures.0
    (heights_stop gaps here.gap-index here.height c.gap-item.result c.in_err-height.field-0.0 here.heights.items (checked_column gaps)
    (rest_item gaps here.gap-index c.gap-item.result c.loop-gap-test.true c.gap-item.is) c.in_err-height.ensures.is here.invariant)

pub returns : goal.returns
returns c = heights_done c.args.gaps.now c.loop-gap.gap-index c.loop-gap.height c.loop-gap.heights.items (checked_column c.args.gaps.now)
    c.loop-gap-test.false c.loop-gap.invariant
