use Rattle.cert_check.specs.Lines.{span_check}
use Rattle.cert_check.proofs.UniqueVerdict.{one_answer}
use Rattle.cert_check.proofs.laws.one_verdict.Goals as goal

pub returns : goal.returns
returns c = one_answer (span_check c.args.problem.now c.args.value.now c.args.cert.now) c.args.first.now c.args.second.now c.requires.first c.requires.second
