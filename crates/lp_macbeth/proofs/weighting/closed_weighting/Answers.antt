use Rattle.std.proofs.Common.{◌<◌, length, ap, subst, sym, ◌∙◌, All}
use Rattle.lp_macbeth.proofs.WeightingLemmas.{numbers_given, length-numbers, AreGapCosts, gap_costs_given}
use Rattle.lp_macbeth.proofs.weighting.closed_weighting.Goals as goal

pub costs-requires : goal.costs-requires
costs-requires c =
    let gaps = c.args.gaps.now in
    let least = c.least-least.result in
    let multiple = rw c.deref.ensures.value at c.in_ok-scale.ensures in
    let numerators = rw c.deref-2.ensures.value at c.in_ok-numerators.ensures in
    let are = numbers_given gaps least c.in_ok-excesses.excesses.items c.in_ok-scale.scale c.in_ok-numerators.numerators.items
    c.requires.some c.are_fractions.ensures.positive c.least-least.ensures c.in_ok-excesses.ensures (sym multiple) numerators in
    subst (λ k. All (λ i. i < k) c.args.order.now) (sym
    (ap length c.deref-3.ensures.value ∙ length-numbers least gaps c.in_ok-scale.scale c.in_ok-numerators.numerators.items are.same))
    c.requires.order.within

gap_costs : (c : goal.In_ok-cost) → AreGapCosts (length c.args.gaps.now) c.in_ok-cost.cost.items
gap_costs c =
    let multiple = rw c.deref.ensures.value at c.in_ok-scale.ensures in
    let numerators = rw c.deref-2.ensures.value at c.in_ok-numerators.ensures in
    let cost = rw c.deref-3.ensures.value at c.in_ok-cost.ensures in
    gap_costs_given c.args.order.now c.args.gaps.now c.least-least.result c.in_ok-excesses.excesses.items c.in_ok-scale.scale
    c.in_ok-numerators.numerators.items c.in_ok-cost.cost.items c.requires.some
    c.are_fractions.ensures.positive c.requires.order c.least-least.ensures c.in_ok-excesses.ensures (sym multiple) numerators cost

pub weighting_problem-requires-clause-one_each : goal.weighting_problem-requires-clause-one_each
weighting_problem-requires-clause-one_each c = (gap_costs c).each ∙ c.requires.gaps

pub weighting_problem-requires-clause-nonneg : goal.weighting_problem-requires-clause-nonneg
weighting_problem-requires-clause-nonneg c = (gap_costs c).nonneg

pub weighting_problem-requires-clause-in_range : goal.weighting_problem-requires-clause-in_range
weighting_problem-requires-clause-in_range c = (gap_costs c).in_range
