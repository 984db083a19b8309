use Rattle.frac128.specs.Problem.{IsSpanCertificate}
use Rattle.frac128.proofs.ProblemLaws.{span_bounds}
use Rattle.std.proofs.Common.{subst}
use Rattle.cert_check.specs.Lines.{Decides, span_check}
use Rattle.cert_check.proofs.ReachedLemmas.{Decides-from_verdict}
use Rattle.cert_check.proofs.SpanLemmas.{span-lines}
use Rattle.cert_check.proofs.check.check_dual.Goals as goal

pub returns-clause-exact : goal.returns-clause-exact
returns-clause-exact c =
    Decides-from_verdict (span_check c.args.problem.now c.args.value.now c.args.cert.now)
    (IsSpanCertificate c.args.problem.now c.args.cert.now c.args.value.now)
    (span-lines c.args.problem.now c.args.value.now c.args.cert.now c.span_verdict.ensures.known.0 c.span_verdict.ensures.known.1)
    c.span_verdict.result c.span_verdict.ensures.verdict

pub returns-clause-bounds : goal.returns-clause-bounds
returns-clause-bounds c = λ holds.
    span_bounds c.args.problem.now c.args.cert.now c.args.value.now
    (subst (Decides (IsSpanCertificate c.args.problem.now c.args.cert.now c.args.value.now)) holds (returns-clause-exact c))
