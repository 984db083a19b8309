use Rattle.session_edits.proofs.QueryLemmas.{scale_reply, cert_reply, wcert_reply}
use Rattle.session_edits.proofs.laws.a_scale_is_least.Goals as goal

pub returns-clause-scale : goal.returns-clause-scale
returns-clause-scale c = λ s next name k reply holds found h. scale_reply s next holds reply name k found h

pub returns-clause-cert : goal.returns-clause-cert
returns-clause-cert c = λ s next name k reply holds found h. cert_reply s next holds reply name k found h

pub returns-clause-wcert : goal.returns-clause-wcert
returns-clause-wcert c = λ s next reply holds some h. wcert_reply s next holds reply some h
