use Rattle.cert_check.specs.Lines.{farkas_check}
use Rattle.cert_check.proofs.UniqueVerdict.{one_answer}
use Rattle.cert_check.proofs.laws.one_farkas_verdict.Goals as goal

pub returns : goal.returns
returns c = one_answer (farkas_check c.args.problem.now c.args.cert.now) c.args.first.now c.args.second.now c.requires.first c.requires.second
