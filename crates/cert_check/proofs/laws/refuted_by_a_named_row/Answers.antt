use Rattle.cert_check.proofs.FailsLemmas.{fails_named_row}
use Rattle.cert_check.proofs.laws.refuted_by_a_named_row.Goals as goal

pub returns : goal.returns
returns c = fails_named_row c.args.matrix.now c.args.cert.now c.requires.size c.requires.refutes
