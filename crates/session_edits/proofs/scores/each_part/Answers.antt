use Rattle.std.proofs.Common.{◌≡◌, ◌<◌, length, List, ℕ, Ok, subst, ◌∙◌}
use Rattle.session_edits.specs.Refusals.{or_too_wide}
use Rattle.session_edits.specs.Scores.{criteria_under, checked_parts, partial_score}
use Rattle.session_edits.proofs.ScoreLemmas.{each-more}
use Rattle.session_edits.proofs.scores.each_part.Goals as goal

pub loop-group-preserved : goal.loop-group-preserved
loop-group-preserved c =
    let m = c.args.model.now in
    let worths = c.args.worths.now in
    let i = c.loop-group.group in
    let h = subst (λ k. i < k) c.groups-group-end.ensures.each c.loop-group-test.true in
    let those = c.deref.ensures.value ∙ c.in_ok-criteria.ensures.value in
    let worked = subst (λ (cs : List ℕ). or_too_wide (partial_score m worths c.args.option cs) ≡ Ok c.in_ok-partial_score.field-0) those
    c.in_ok-partial_score.ensures in
    each-more (λ g. partial_score m worths c.args.option (criteria_under m g)) (length m.groups) i c.loop-group.parts.items c.push.new.self.items
    (or_too_wide (checked_parts m worths c.args.option)) c.in_ok-partial_score.field-0 h worked c.loop-group.invariant c.in_ok-push.ensures.items
