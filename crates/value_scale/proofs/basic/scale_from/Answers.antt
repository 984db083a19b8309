use Rattle.std.proofs.Common.{All, subst, arith, refl, ap, sym, take, ◌-◌, ◌∙◌, Ok}
use Rattle.std.proofs.lemmas.List.{length-take-le}
use Rattle.integers.specs.Fraction.{AreFractions}
use Rattle.frac128.specs.Frac.{IsReduced}
use Rattle.value_scale.specs.GapSums.{checked_values}
use Rattle.value_scale.proofs.BasicLemmas.{gaps_are_there, scale_with_proof}
use Rattle.value_scale.proofs.basic.scale_from.Goals as goal

pub slice_bounds-values_of-length : goal.slice_bounds-values_of-length
slice_bounds-values_of-length c =
    let there = gaps_are_there c.args.matrix.now c.args.point.now c.args.value.now c.requires.size c.requires.least in
    sym (length-take-le (c.size.result - 1) c.args.point.now (omega (arith, there, c.size.ensures.value)))

pub returns : goal.returns
returns c =
    let worked = ap (λ n. checked_values (take (n - 1) c.args.point.now)) (sym c.size.ensures.value) ∙ c.in_ok-values.ensures ∙ ap Ok (sym c.make.ensures) in
    let held = c.deref.ensures.value ∙ sym c.make.ensures in
    let both = scale_with_proof c.args.matrix.now c.writings_meet_alike.ensures c.writings_compare_alike.ensures c.thresholds_are_enough.ensures.scale c.requires.size
    c.args.point.now c.args.value.now c.make.result c.args.cert c.requires.least c.are_fractions.ensures.positive c.den.ensures.positive
    (subst AreFractions held c.are_fractions-2.ensures.positive) (subst (All IsReduced) held c.are_fractions-2.ensures.lowest) worked
    c.requires.proof in
    (both.0, (refl, both.1))
