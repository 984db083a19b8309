use Rattle.std.proofs.Common.{arith}
use Rattle.std.proofs.lemmas.Result.{IfOk-at_ok}
use Rattle.lp_macbeth.proofs.ClosedLemmas.{met_in_unit_zero}
use Rattle.lp_macbeth.proofs.WeightingLemmas.{IsWeighting, weighting_is, points_of, weights_of-gaps_of, gaps_of-weights_of}
use Rattle.lp_macbeth.proofs.laws.closed_points_are_closed_weightings.Goals as goal

pub returns : goal.returns
returns c =
    let a = c.args in
    let m = a.matrix.now in
    let h : IsWeighting m a.order.now a.gaps.now a.closed.now =
    IfOk-at_ok (IsWeighting m a.order.now a.gaps.now) c.requires.made
    (weighting_is m a.order.now a.gaps.now c.requires.some c.are_fractions.ensures.positive) in
    record {
      points = λ x n. points_of m a.order.now a.gaps.now a.closed.now x n (omega (arith, c.requires.gaps, c.requires.some)) h;
      weights = weights_of-gaps_of;
      gaps = gaps_of-weights_of;
      units = λ w u nonneg met. met_in_unit_zero m w u nonneg met;
    }
