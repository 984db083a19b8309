use Rattle.frac128.proofs.ProblemLaws.{span_bounds}
use Rattle.frac128.proofs.problem.span_bounds_cost.Goals as goal

pub returns : goal.returns
returns c value h = span_bounds c.args.problem.now c.args.cert.now value h
