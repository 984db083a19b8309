use Rattle.value_scale.specs.Anchor.{checked_line}
use Rattle.value_scale.proofs.ChainLemmas.{rest_item, line_next, line_stops, line_done, too_wide_line}
use Rattle.value_scale.proofs.anchored_scale.on_line.Goals as goal

pub loop-value-preserved : goal.loop-value-preserved
loop-value-preserved c =
    let values = c.args.values.now in
    let here = c.loop-value in
    line_next c.args.zero.now c.args.factor.now values here.value-index c.value-item.result c.in_ok-point.point here.anchored.items c.push.new.self.items
    (checked_line c.args.zero.now c.args.factor.now values) (rest_item values here.value-index c.value-item.result c.loop-value-test.true c.value-item.is)
    c.in_ok-point.ensures c.in_ok-push.ensures.items here.invariant

pub returns-in_err-point : goal.returns-in_err-point
returns-in_err-point c =
    let values = c.args.values.now in
    let here = c.loop-value in
    let all = checked_line c.args.zero.now c.args.factor.now values in
    too_wide_line (λ v. v.items) all c.in_err-point.field-0.0 c.from_residual.result c.from_residual.ensures.0 c.from_residual.ensures.1
    (line_stops c.args.zero.now c.args.factor.now values here.value-index c.value-item.result c.in_err-point.field-0.0 here.anchored.items all
    (rest_item values here.value-index c.value-item.result c.loop-value-test.true c.value-item.is) c.in_err-point.ensures here.invariant)

pub returns : goal.returns
returns c = line_done c.args.zero.now c.args.factor.now c.args.values.now c.loop-value.value-index c.loop-value.anchored.items
    (checked_line c.args.zero.now c.args.factor.now c.args.values.now) c.loop-value-test.false c.loop-value.invariant
