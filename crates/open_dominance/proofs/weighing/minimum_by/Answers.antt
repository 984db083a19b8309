use Rattle.std.proofs.Common.{◌∙◌, length, ap}
use Rattle.open_dominance.proofs.WeighingLemmas.{costs_of}
use Rattle.open_dominance.proofs.weighing.minimum_by.Goals as goal

pub weighting_thresholds-requires-clause-one_each : goal.weighting_thresholds-requires-clause-one_each
weighting_thresholds-requires-clause-one_each c =
    let a = c.args in
    let costs = costs_of a.matrix.now a.order.now a.gaps.now a.closed.now c.are_fractions.ensures.positive c.requires.weighting in
    ap length c.in_ok-cost.ensures.items ∙ ap length c.cost.ensures.value ∙ costs.each ∙ c.requires.weighting.each
