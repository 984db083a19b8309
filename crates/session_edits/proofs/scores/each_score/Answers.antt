use Rattle.std.proofs.Common.{◌≡◌, ◌<◌, length, List, ℕ, Ok, subst, ◌∙◌}
use Rattle.session_edits.specs.Refusals.{or_too_wide}
use Rattle.session_edits.specs.Scores.{score_of, each_score, partial_score}
use Rattle.session_edits.proofs.ScoreLemmas.{each-more}
use Rattle.session_edits.proofs.scores.each_score.Goals as goal

pub loop-option-preserved : goal.loop-option-preserved
loop-option-preserved c =
    let m = c.args.model.now in
    let worths = c.args.worths.now in
    let i = c.loop-option.option in
    let h = subst (λ k. i < k) c.options-option-end.ensures.each c.loop-option-test.true in
    let all = c.deref.ensures.value ∙ c.in_ok-criteria.ensures.value in
    let worked = subst (λ (cs : List ℕ). or_too_wide (partial_score m worths i cs) ≡ Ok c.in_ok-partial_score.field-0) all c.in_ok-partial_score.ensures in
    each-more (score_of m worths) (length m.options) i c.loop-option.scores.items c.push.new.self.items (or_too_wide (each_score m worths))
    c.in_ok-partial_score.field-0 h worked c.loop-option.invariant c.in_ok-push.ensures.items
