use Rattle.cert_check.proofs.SpanLemmas.{span-lines}
use Rattle.cert_check.proofs.laws.span_lines.Goals as goal

pub returns : goal.returns
returns c = span-lines c.args.problem.now c.args.value.now c.args.cert.now c.vars.ensures.problem c.den.ensures.positive
