use Rattle.cert_check.proofs.ExistenceLemmas as lemmas
use Rattle.cert_check.proofs.laws.every_text_reads_or_is_bad.Goals as goal

pub returns : goal.returns
returns c = lemmas.every_text_reads_or_is_bad
