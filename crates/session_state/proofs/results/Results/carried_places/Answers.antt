use Rattle.std.proofs.Common.{◌∙◌}
use Rattle.session_state.specs.State.{still_kept}
use Rattle.session_state.proofs.ResultLemmas.{places-push}
use Rattle.session_state.proofs.results.Results.carried_places.Goals as goal

pub loop-at-preserved : goal.loop-at-preserved
loop-at-preserved c =
    places-push (still_kept c.args.model.now c.args.self.now) c.args.after.now.criteria c.loop-at.at c.criterion.result.now c.in_ok-shared.field-0
    c.loop-at.kept.items c.push.new.self.items c.loop-at.invariant c.criterion.ensures.criterion (c.in_ok-shared.ensures ∙ c.still_kept.ensures)
    c.in_ok-push.ensures.items
