use Rattle.std.proofs.Common.{◌≤◌, arith}
use Rattle.std.proofs.lemmas.Result.{IfOk-at_ok}
use Rattle.lp_macbeth.proofs.WeightingLemmas.{IsWeighting, weighting_is, cost_numbers, sum_of, least_of_gaps}
use Rattle.lp_macbeth.proofs.laws.costs_are_weighted_gaps.Goals as goal

pub returns : goal.returns
returns c =
    let a = c.args in
    let m = a.matrix.now in
    let pg = c.are_fractions.ensures.positive in
    let two : 2 ≤ m.size = omega (arith, c.requires.gaps, c.requires.some) in
    let h : IsWeighting m a.order.now a.gaps.now a.closed.now =
    IfOk-at_ok (IsWeighting m a.order.now a.gaps.now) c.requires.made (weighting_is m a.order.now a.gaps.now c.requires.some pg) in
    record {
      least = least_of_gaps m a.order.now a.gaps.now a.closed.now c.requires.some pg h;
      scale = (h.weighed.1.are.positive, h.weighed.1.are.in_range);
      numbers = cost_numbers m a.order.now a.gaps.now a.closed.now c.requires.order h;
      sum = λ x n g d feasible written. sum_of m a.order.now a.gaps.now a.closed.now x g n d c.requires.gaps two pg c.requires.order h feasible written;
    }
