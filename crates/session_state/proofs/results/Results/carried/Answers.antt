use Rattle.std.proofs.Common.{◌∙◌}
use Rattle.session_state.proofs.ResultLemmas.{AreResults-places}
use Rattle.session_state.proofs.results.Results.carried.Goals as goal

pub returns-clause-results : goal.returns-clause-results
returns-clause-results c =
    AreResults-places c.args.model.now c.args.self.now c.requires c.args.after.now _ c.in_ok-carried_places.ensures
    (c.in_ok-shared.ensures ∙ c.still_kept_weighting.ensures)
