use Rattle.session_edits.proofs.QueryLemmas.{edit_undone}
use Rattle.session_edits.proofs.laws.undo_brings_back.Goals as goal

pub returns : goal.returns
returns c = edit_undone
