use Rattle.session_edits.proofs.QueryLemmas.{subtotals_reply}
use Rattle.session_edits.proofs.laws.subtotals_values.Goals as goal

pub returns : goal.returns
returns c = λ s next name o reply holds found some none h. subtotals_reply s next holds reply name o found some none h
