use Rattle.std.proofs.Common.{◌∙◌, ◌-◌, inl, All, Ok, take, sym, ap, subst, arith}
use Rattle.std.proofs.lemmas.List.{length-take-le}
use Rattle.frac128.specs.Frac.{IsReduced}
use Rattle.frac128.specs.Problem.{IsSpanCertificate}
use Rattle.open_dominance.specs.Weighing.{checked_minimum}
use Rattle.open_dominance.proofs.WeighingLemmas.{weighting_of, costs_of, weighting_gaps_are_there, least_weighting}
use Rattle.open_dominance.proofs.weighing.minimum_of_point.Goals as goal

pub slice_bounds-between-length : goal.slice_bounds-between-length
slice_bounds-between-length c =
    let a = c.args in
    let there = weighting_gaps_are_there a.matrix.now a.order.now a.gaps.now a.closed.now a.point.now a.value.now c.are_fractions.ensures.positive c.requires.weighting c.requires.least in
    sym (length-take-le (c.size.result - 1) a.point.now (omega (arith, there, c.size.ensures.value)))

pub worked_minimum-requires-clause-above : goal.worked_minimum-requires-clause-above
worked_minimum-requires-clause-above c =
    let a = c.args in
    (weighting_of a.matrix.now a.order.now a.gaps.now a.closed.now c.are_fractions.ensures.positive c.requires.weighting).weighed.1.are.positive

pub worked_minimum-requires-clause-in_range : goal.worked_minimum-requires-clause-in_range
worked_minimum-requires-clause-in_range c =
    let a = c.args in
    (weighting_of a.matrix.now a.order.now a.gaps.now a.closed.now c.are_fractions.ensures.positive c.requires.weighting).weighed.1.are.in_range

pub translate_weighting-requires-clause-cert : goal.translate_weighting-requires-clause-cert
translate_weighting-requires-clause-cert c = let a = c.args in (a.closed.now.problem.cost, inl (a.value.now, c.requires.proof))

pub returns : goal.returns
returns c =
    let a = c.args in
    let m = a.matrix.now in
    let closed = a.closed.now in
    let pg = c.are_fractions.ensures.positive in
    let w = weighting_of m a.order.now a.gaps.now closed pg c.requires.weighting in
    let each = (costs_of m a.order.now a.gaps.now closed pg c.requires.weighting).each ∙ c.requires.weighting.each in
    let proof = subst (λ p. IsSpanCertificate p c.in_ok-carried.carried a.value.now) (sym w.problem)
    ((c.in_ok-carried.ensures closed.problem.cost each).span a.value.now c.requires.proof) in
    let worked = ap (λ n. checked_minimum closed a.value.now (take (n - 1) a.point.now)) (sym c.size.ensures.value) ∙ c.in_ok-least.ensures
    ∙ ap (λ items. Ok (c.in_ok-least.least, items)) (sym c.make.ensures) in
    record {
      means = least_weighting m a.order.now a.gaps.now closed c.size.ensures.matrix pg c.den-2.ensures.positive c.requires.weighting a.point.now a.value.now
          c.are_fractions-2.ensures.positive c.den.ensures.positive c.requires.least c.in_ok-carried.carried proof c.in_ok-least.least c.make.result worked;
      least_reduced = (c.den-3.ensures.positive, c.den-3.ensures.lowest);
      weights_reduced = subst (All IsReduced) (c.deref.ensures.value ∙ sym c.make.ensures) c.are_fractions-3.ensures.lowest;
      proof = proof;
      worked = record { point = a.point.now; is = c.requires.least; are = worked };
    }
