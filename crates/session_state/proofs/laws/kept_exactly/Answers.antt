use Rattle.session_state.proofs.ResultLemmas.{carried-exactly, carried_weighting-exactly}
use Rattle.session_state.proofs.SessionLemmas.{kept_is_taken}
use Rattle.session_state.proofs.laws.kept_exactly.Goals as goal

pub returns-clause-criterion : goal.returns-clause-criterion
returns-clause-criterion c = carried-exactly

pub returns-clause-weighting : goal.returns-clause-weighting
returns-clause-weighting c = carried_weighting-exactly

pub returns-clause-taken : goal.returns-clause-taken
returns-clause-taken c = kept_is_taken
