use Rattle.session_edits.proofs.QueryLemmas.{scores_reply}
use Rattle.session_edits.proofs.laws.scores_values.Goals as goal

pub returns : goal.returns
returns c = λ s next reply holds some none h. scores_reply s next holds reply some none h
