use Rattle.std.proofs.Common.{◌∙◌, ◌-◌, inl, All, Ok, take, refl, sym, ap, subst, arith}
use Rattle.std.proofs.lemmas.List.{length-take-le}
use Rattle.frac128.specs.Frac.{IsReduced}
use Rattle.frac128.specs.Problem.{IsSpanCertificate}
use Rattle.judgement_matrix.specs.Matrix.{Judgements, IsMatrix}
use Rattle.lp_macbeth.specs.Closed.{closed_cost}
use Rattle.lp_macbeth.specs.ClosedThreshold.{closed_thresholds_with}
use Rattle.lp_macbeth.specs.ClosedTranslated.{IsClosedCarried}
use Rattle.lp_macbeth.proofs.ClosedRowLemmas.{IsCost-closed}
use Rattle.open_dominance.specs.Gap.{checked_gap}
use Rattle.open_dominance.proofs.GapLemmas.{gaps_are_there, references_fit, least_difference}
use Rattle.open_dominance.proofs.closed_gap.gap_of_point.Goals as goal

pub slice_bounds-gaps-length : goal.slice_bounds-gaps-length
slice_bounds-gaps-length c =
    let a = c.args in
    let there = gaps_are_there a.criterion.now a.a a.b a.point.now a.value.now c.requires.least in
    let size = c.size.ensures.value ∙ ap (λ (m : Judgements). m.size) c.matrix-matrix.ensures.value in
    sym (length-take-le (c.size.result - 1) a.point.now (omega (arith, there, size)))

pub worked_gap-requires : goal.worked_gap-requires
worked_gap-requires c =
    let a = c.args in
    let there = gaps_are_there a.criterion.now a.a a.b a.point.now a.value.now c.requires.least in
    let size = c.size.ensures.value ∙ ap (λ (m : Judgements). m.size) c.matrix-matrix.ensures.value in
    let long = length-take-le (c.size.result - 1) a.point.now (omega (arith, there, size)) in
    let refs = references_fit a.criterion.now c.elements.ensures.keeps in
    omega (arith, long, size, refs)

pub translate_closed-requires : goal.translate_closed-requires
translate_closed-requires c =
    let a = c.args in
    let d = a.criterion.now in
    let cost = closed_cost d.matrix.size a.a a.b in (
      d.good,
      (d.neutral, (d.reach, (cost, inl (a.value.now, subst (λ m. IsSpanCertificate (closed_thresholds_with m d.good d.neutral d.reach cost) a.cert.now a.value.now) (sym c.matrix-matrix.ensures.value) c.requires.proof)))),
    )

pub returns : goal.returns
returns c =
    let a = c.args in
    let d = a.criterion.now in
    let same = c.matrix-matrix.ensures.value in
    let refs = references_fit d c.elements.ensures.keeps in
    let apart = c.requires.apart in
    let cost = closed_cost d.matrix.size a.a a.b in
    let each = (IsCost-closed d.matrix.size a.a a.b apart.apart apart.first apart.second).one_each in
    let carried = subst (λ m. IsClosedCarried m a.cert.now c.in_ok-carried.carried) same c.in_ok-carried.ensures in
    let proof = (carried d.good d.neutral d.reach cost refs each).span a.value.now c.requires.proof in
    let size = c.size.ensures.value ∙ ap (λ (m : Judgements). m.size) same in
    let worked = ap (λ n. checked_gap d a.a a.b a.value.now (take (n - 1) a.point.now)) (sym size) ∙ c.in_ok-least.ensures
    ∙ ap (λ items. Ok (c.in_ok-least.least, items)) (sym c.make.ensures) in
    record {
      value = a.value.now;
      is_value = refl;
      means = least_difference d a.a a.b (subst IsMatrix same c.size.ensures.matrix) refs apart a.point.now a.value.now c.are_fractions.ensures.positive
          c.den.ensures.positive c.requires.least c.in_ok-carried.carried proof c.in_ok-least.least c.make.result worked;
      least_reduced = (c.den-2.ensures.positive, c.den-2.ensures.lowest);
      scale_reduced = subst (All IsReduced) (c.deref.ensures.value ∙ sym c.make.ensures) c.are_fractions-2.ensures.lowest;
      proof = proof;
      worked = record { point = a.point.now; is = c.requires.least; are = worked };
    }
