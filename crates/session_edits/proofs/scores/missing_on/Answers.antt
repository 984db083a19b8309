use Rattle.std.proofs.Common.{◌<◌, length, subst, sym, ◌∙◌}
use Rattle.session_edits.proofs.ScoreLemmas.{on_next}
use Rattle.session_edits.proofs.scores.missing_on.Goals as goal

pub loop-criterion-preserved : goal.loop-criterion-preserved
loop-criterion-preserved c =
    let i = c.loop-criterion.criterion in
    let h = subst (λ k. i < k) c.criteria-criterion-end.ensures.each c.loop-criterion-test.true in
    sym (on_next c.args.model.now c.args.option (length c.args.model.now.criteria) i c.in-Some.field-0 h (sym c.performance.ensures.value ∙ c.in-Some.is))
    ∙ c.loop-criterion.invariant
