use Rattle.session_edits.proofs.QueryLemmas.{weights_reply}
use Rattle.session_edits.proofs.laws.weights_values.Goals as goal

pub returns : goal.returns
returns c = λ s next reply holds some h. weights_reply s next holds reply some h
