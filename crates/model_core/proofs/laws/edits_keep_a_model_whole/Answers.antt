use Rattle.model_core.proofs.WholeEdits.{IsWholeModel-empty, edits_keep}
use Rattle.model_core.proofs.laws.edits_keep_a_model_whole.Goals as goal

pub returns-clause-empty : goal.returns-clause-empty
returns-clause-empty c = IsWholeModel-empty

pub returns-clause-edited : goal.returns-clause-edited
returns-clause-edited c = edits_keep
