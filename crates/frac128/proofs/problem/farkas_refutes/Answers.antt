use Rattle.frac128.proofs.ProblemLaws.{farkas_certificate_refutes}
use Rattle.frac128.proofs.problem.farkas_refutes.Goals as goal

pub returns : goal.returns
returns c = farkas_certificate_refutes c.args.problem.now c.args.cert.now c.requires
