use Rattle.report_text.proofs.CertLemmas.{cert_text_is}
use Rattle.report_text.proofs.laws.certificates_as_written.Goals as goal

pub returns : goal.returns
returns c = cert_text_is
