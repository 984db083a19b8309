use Rattle.session_edits.proofs.QueryLemmas.{slack_reply}
use Rattle.session_edits.proofs.laws.slack_values.Goals as goal

pub returns : goal.returns
returns c = λ s next name element k e reply holds found at h. slack_reply s next holds reply name element k e found at h
