use Rattle.cert_check.proofs.ExistenceLemmas as lemmas
use Rattle.cert_check.proofs.laws.every_span_check_has_a_verdict.Goals as goal

pub returns : goal.returns
returns c = lemmas.every_span_check_has_a_verdict
