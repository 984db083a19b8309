use Rattle.std.proofs.Common.{◌≡◌, ◌∷◌, [], ◌++◌, ◌∙◌, ap, pos, to_z, of_z, rules}
use Rattle.std.specs.Int.{w128}
use Rattle.lp_macbeth.specs.ClosedWeighting.{in_order, checked_costs, checked_sums}
use Rattle.lp_macbeth.proofs.CostLoopLemmas.{sums_next, costs_stop, costs_done, too_wide}
use Rattle.lp_macbeth.proofs.weighting.costs.Goals as goal

pub bounds-numerators-criterion : goal.bounds-numerators-criterion
bounds-numerators-criterion c = c.requires c.loop-criterion.criterion-index 0 c.loop-criterion-test.true

pub loop-criterion-preserved : goal.loop-criterion-preserved
loop-criterion-preserved c =
    let order = c.args.order.now in
    let numbers = c.args.numerators.now in
    let here = c.loop-criterion in
    let same : to_z w128 (of_z w128 c.get.result) ≡ c.in_ok-total.total = search rules in
    sums_next order numbers here.criterion-index c.index-numerators-criterion.result here.total c.in_ok-total.total here.costs.items c.push.new.self.items
    (checked_sums (pos 0) (in_order (pos 0) order numbers)) c.loop-criterion-test.true
    (c.requires here.criterion-index 0 c.loop-criterion-test.true) c.index-numerators-criterion.is c.in_ok-total.ensures
    (c.in_ok-push.ensures.items ∙ ap (λ z. here.costs.items ++ z ∷ []) same) here.invariant

pub returns-in_err-total : goal.returns-in_err-total
returns-in_err-total c =
    let order = c.args.order.now in
    let numbers = c.args.numerators.now in
    let here = c.loop-criterion in
    too_wide (λ v. v.items) (checked_costs (in_order (pos 0) order numbers)) c.in_err-total.field-0.0 c.from_residual.result c.from_residual.ensures.0
    (costs_stop order numbers here.criterion-index c.index-numerators-criterion.result here.total c.in_err-total.field-0.0 here.costs.items
    c.loop-criterion-test.true (c.requires here.criterion-index 0 c.loop-criterion-test.true) c.index-numerators-criterion.is c.in_err-total.ensures
    here.invariant)

pub returns : goal.returns
returns c = costs_done c.args.order.now c.args.numerators.now c.loop-criterion.criterion-index c.loop-criterion.total c.loop-criterion.costs.items
    c.reverse.new.self.items c.loop-criterion-test.false c.loop-criterion.invariant c.reverse.ensures.items
