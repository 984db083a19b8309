use Rattle.cert_check.proofs.OneText.{printable_read}
use Rattle.cert_check.proofs.reading.read_cert.Goals as goal

pub returns-clause-printable : goal.returns-clause-printable
returns-clause-printable c = printable_read c.args.bytes.now c.cert_in.result c.cert_in.ensures
