use Rattle.cert_check.proofs.FarkasLemmas.{farkas-lines}
use Rattle.cert_check.proofs.laws.farkas_lines.Goals as goal

pub returns : goal.returns
returns c = farkas-lines c.args.problem.now c.args.cert.now c.vars.ensures.problem
