use Rattle.session_state.proofs.SessionLemmas.{taken_is_basic, AreResults-taken}
use Rattle.session_state.proofs.laws.what_is_taken_is_basic.Goals as goal

pub returns-clause-basic : goal.returns-clause-basic
returns-clause-basic c = taken_is_basic

pub returns-clause-results : goal.returns-clause-results
returns-clause-results c = AreResults-taken
