use Rattle.std.proofs.Common.{subst, ◌*ℤ◌}
use Rattle.frac128.specs.Range.{IsInRange}
use Rattle.cert_check.proofs.ColumnLemmas.{IsColumnBelow-compared}
use Rattle.cert_check.proofs.columns.is_below.Goals as goal

pub returns : goal.returns
returns c = (
  record { sums = c.in_ok-sum.ensures.0; most = subst (λ z. IsInRange (c.args.den *ℤ z)) c.cost_of.ensures c.in_ok-most.ensures.0 },
  IsColumnBelow-compared c.args.problem.now c.args.den c.args.on.now c.args.j c.in_ok-sum.sum c.in_ok-most.most c.cost_of.result c.is_at_most.result
      c.in_ok-sum.ensures.1 c.in_ok-most.ensures.1 c.cost_of.ensures c.is_at_most.ensures,
)
