use Rattle.lp_macbeth.specs.ClosedWeighting.{checked_excesses}
use Rattle.lp_macbeth.proofs.LoopLemmas.{rest_item}
use Rattle.lp_macbeth.proofs.CostLoopLemmas.{excesses_next, excesses_stop, excesses_done, too_wide}
use Rattle.lp_macbeth.proofs.weighting.excesses.Goals as goal

pub loop-gap-preserved : goal.loop-gap-preserved
loop-gap-preserved c =
    let gaps = c.args.gaps.now in
    let here = c.loop-gap in
    excesses_next c.args.least.now gaps here.gap-index c.gap-item.result c.in_ok-excess.excess here.excesses.items c.push.new.self.items
    (checked_excesses c.args.least.now gaps) (rest_item gaps here.gap-index c.gap-item.result c.loop-gap-test.true c.gap-item.is) c.in_ok-excess.ensures.is
    c.in_ok-push.ensures.items here.invariant

pub returns-in_err-excess : goal.returns-in_err-excess
returns-in_err-excess c =
    let gaps = c.args.gaps.now in
    let here = c.loop-gap in
    let all = checked_excesses c.args.least.now gaps in
    too_wide (λ v. v.items) all c.in_err-excess.field-0.0 c.from_residual.result c.from_residual.ensures.0
    (excesses_stop c.args.least.now gaps here.gap-index c.gap-item.result c.in_err-excess.field-0.0 here.excesses.items all
    (rest_item gaps here.gap-index c.gap-item.result c.loop-gap-test.true c.gap-item.is) c.in_err-excess.ensures.is here.invariant)

pub returns : goal.returns
returns c = excesses_done c.args.least.now c.args.gaps.now c.loop-gap.gap-index c.loop-gap.excesses.items (checked_excesses c.args.least.now c.args.gaps.now)
    c.loop-gap-test.false c.loop-gap.invariant
