use Rattle.std.specs.Result.{is_err}
use Rattle.std.proofs.Common.{inr, IsTrue, subst, Err, ap, ◌∙◌}
use Rattle.value_scale.specs.Anchor.{FaultSays, checked_anchor}
use Rattle.open_dominance.proofs.GapLemmas.{references_fit}
use Rattle.open_dominance.proofs.OwnLemmas.{not_flat_at, error_of}
use Rattle.open_dominance.proofs.own_gap.anchored_values.Goals as goal

pub unreachable-requires : goal.unreachable-requires
unreachable-requires c =
    let a = c.args in
    not_flat_at a.criterion.now (references_fit a.criterion.now c.elements.ensures.keeps) c.requires.anchored a.values.now c.are_fractions.ensures.positive
    c.requires.basic.1.1.0.least c.good.result c.neutral.result c.good.ensures.value c.neutral.ensures.value
    (c.anchor.ensures.flat.0 (c.in-Err-Flat.is ∙ ap Err c.in-Err-Flat.field-0-is))

pub returns-in-Ok : goal.returns-in-Ok
returns-in-Ok c =
    let a = c.args in
    let apart = not_flat_at a.criterion.now (references_fit a.criterion.now c.elements.ensures.keeps) c.requires.anchored a.values.now
    c.are_fractions.ensures.positive c.requires.basic.1.1.0.least c.good.result c.neutral.result c.good.ensures.value c.neutral.ensures.value in
    let good = c.good.ensures.value in
    let neutral = c.neutral.ensures.value in
    let worked = c.in-Ok.ensures.worked apart in
    record { values = a.values.now; cert = a.cert.now; basic = c.requires.basic; are = rw (good, neutral) at worked }

pub returns-in-Err-TooWide : goal.returns-in-Err-TooWide
returns-in-Err-TooWide c =
    let a = c.args in
    let apart = not_flat_at a.criterion.now (references_fit a.criterion.now c.elements.ensures.keeps) c.requires.anchored a.values.now
    c.are_fractions.ensures.positive c.requires.basic.1.1.0.least c.good.result c.neutral.result c.good.ensures.value c.neutral.ensures.value in
    let good = c.good.ensures.value in
    let neutral = c.neutral.ensures.value in
    let told = c.in-Err-TooWide.ensures.worked apart in
    let worked = checked_anchor a.values.now c.good.result c.neutral.result in
    let wide = subst (λ f. FaultSays f (IsTrue (is_err worked))) c.in-Err-TooWide.field-0-is told in
    let err = error_of worked wide in
    inr (record { values = a.values.now; cert = a.cert.now; basic = c.requires.basic; are = rw (good, neutral) at err })
