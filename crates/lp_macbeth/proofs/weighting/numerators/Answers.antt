use Rattle.lp_macbeth.specs.ClosedWeighting.{checked_numerators}
use Rattle.lp_macbeth.proofs.LoopLemmas.{rest_item}
use Rattle.lp_macbeth.proofs.CostLoopLemmas.{numerators_next, numerators_stop, numerators_done, too_wide}
use Rattle.lp_macbeth.proofs.weighting.numerators.Goals as goal

pub loop-excess-preserved : goal.loop-excess-preserved
loop-excess-preserved c =
    let es = c.args.excesses.now in
    let here = c.loop-excess in
    let e = c.excess-item.result in
    numerators_next c.args.scale es here.excess-index e c.in_ok-numerator.numerator here.numerators.items c.push.new.self.items
    (checked_numerators c.args.scale es) (rest_item es here.excess-index e c.loop-excess-test.true c.excess-item.is) c.in_ok-numerator.ensures
    c.in_ok-push.ensures.items here.invariant

pub returns-in_err-numerator : goal.returns-in_err-numerator
returns-in_err-numerator c =
    let es = c.args.excesses.now in
    let here = c.loop-excess in
    let e = c.excess-item.result in
    let all = checked_numerators c.args.scale es in
    too_wide (λ v. v.items) all c.in_err-numerator.field-0.0 c.from_residual.result c.from_residual.ensures.0
    (numerators_stop c.args.scale es here.excess-index e c.in_err-numerator.field-0.0 here.numerators.items all
    (rest_item es here.excess-index e c.loop-excess-test.true c.excess-item.is) c.in_err-numerator.ensures here.invariant)

pub returns : goal.returns
returns c = numerators_done c.args.scale c.args.excesses.now c.loop-excess.excess-index c.loop-excess.numerators.items
    (checked_numerators c.args.scale c.args.excesses.now) c.loop-excess-test.false c.loop-excess.invariant
