use Rattle.frac128.specs.declared.frac.Frac.{Frac}
use Rattle.std.proofs.Common.{Ok, Err, Vec, Global, ap, subst, sym, ◌∙◌, rules}
use Rattle.swing_weights.specs.Weights.{checked_weights, AnswersBasic}
use Rattle.swing_weights.specs.declared.weighing.WeightFault.TheVariants as fault
use Rattle.session_edits.specs.Refusals.{or_too_wide, Works}
use Rattle.session_edits.specs.Scales.{weights_of}
use Rattle.session_edits.proofs.WorthLemmas.{of_basic, weights_worked, weights_flat, wide_refused, weights_length}
use Rattle.session_edits.proofs.scales.weights_of.Goals as goal

pub returns-in-Ok-clause-value : goal.returns-in-Ok-clause-value
returns-in-Ok-clause-value c =
    let values = c.args.values.now in
    let h = of_basic (λ v. v.items) c.args.model.now c.args.basic.now values (Ok c.in-Ok.weights) c.requires.values
    (subst (AnswersBasic (λ v. v.items) c.args.basic.now) c.in-Ok.is c.weights.ensures) in
    weights_worked values h.0 ∙ ap or_too_wide h.1

pub returns-in-Ok-clause-each : goal.returns-in-Ok-clause-each
returns-in-Ok-clause-each c =
    let values = c.args.values.now in
    let h = of_basic (λ v. v.items) c.args.model.now c.args.basic.now values (Ok c.in-Ok.weights) c.requires.values
    (subst (AnswersBasic (λ v. v.items) c.args.basic.now) c.in-Ok.is c.weights.ensures) in
    weights_length values c.in-Ok.weights.items h.1

pub returns-in-Err-Flat-clause-value : goal.returns-in-Err-Flat-clause-value
returns-in-Err-Flat-clause-value c =
    let values = c.args.values.now in
    let h = of_basic (λ v. v.items) c.args.model.now c.args.basic.now values (Err fault.Flat) c.requires.values
    (subst (AnswersBasic (λ v. v.items) c.args.basic.now) (c.in-Err-Flat.is ∙ ap (λ f. Err f) c.in-Err-Flat.field-0-is) c.weights.ensures) in
    (weights_flat values h, search rules)

pub returns-in-Err-TooWide-clause-value : goal.returns-in-Err-TooWide-clause-value
returns-in-Err-TooWide-clause-value c =
    let values = c.args.values.now in
    let h = of_basic (λ v. v.items) c.args.model.now c.args.basic.now values (Err fault.TooWide) c.requires.values
    (subst (AnswersBasic (λ v. v.items) c.args.basic.now) (c.in-Err-TooWide.is ∙ ap (λ f. Err f) c.in-Err-TooWide.field-0-is) c.weights.ensures) in
    let wide = weights_worked values h.0 ∙ wide_refused (checked_weights values) h.1 in
    subst (λ stop. Works (λ (v : Vec Frac Global). v.items) (weights_of values) (Err stop)) (sym c.stopped.ensures) (wide, search rules)
