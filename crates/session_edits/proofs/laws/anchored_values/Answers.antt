use Rattle.session_edits.proofs.QueryLemmas.{anchored_reply}
use Rattle.session_edits.proofs.laws.anchored_values.Goals as goal

pub returns : goal.returns
returns c = λ s next name k reply holds found h. anchored_reply s next holds reply name k found h
