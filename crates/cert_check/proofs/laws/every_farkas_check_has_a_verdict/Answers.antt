use Rattle.cert_check.proofs.ExistenceLemmas as lemmas
use Rattle.cert_check.proofs.laws.every_farkas_check_has_a_verdict.Goals as goal

pub returns : goal.returns
returns c = lemmas.every_farkas_check_has_a_verdict
