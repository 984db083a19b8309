use Rattle.session_state.proofs.SessionLemmas.{undone_of_changed}
use Rattle.session_state.proofs.laws.a_change_can_be_undone.Goals as goal

pub returns : goal.returns
returns c = undone_of_changed
