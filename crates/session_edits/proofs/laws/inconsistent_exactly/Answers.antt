use Rattle.session_edits.proofs.QueryLemmas.{scale_exactly}
use Rattle.session_edits.proofs.laws.inconsistent_exactly.Goals as goal

pub returns : goal.returns
returns c = scale_exactly
