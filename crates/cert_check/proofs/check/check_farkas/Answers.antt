use Rattle.frac128.specs.Problem.{IsFarkasCertificate}
use Rattle.frac128.proofs.ProblemLaws.{farkas_certificate_refutes}
use Rattle.std.proofs.Common.{subst}
use Rattle.cert_check.specs.Lines.{Decides, farkas_check}
use Rattle.cert_check.proofs.ReachedLemmas.{Decides-from_verdict}
use Rattle.cert_check.proofs.FarkasLemmas.{farkas-lines}
use Rattle.cert_check.proofs.check.check_farkas.Goals as goal

pub returns-clause-exact : goal.returns-clause-exact
returns-clause-exact c =
    Decides-from_verdict (farkas_check c.args.problem.now c.args.cert.now) (IsFarkasCertificate c.args.problem.now c.args.cert.now)
    (farkas-lines c.args.problem.now c.args.cert.now c.farkas_verdict.ensures.known) c.farkas_verdict.result c.farkas_verdict.ensures.verdict

pub returns-clause-refutes : goal.returns-clause-refutes
returns-clause-refutes c = λ holds.
    farkas_certificate_refutes c.args.problem.now c.args.cert.now
    (subst (Decides (IsFarkasCertificate c.args.problem.now c.args.cert.now)) holds (returns-clause-exact c))
