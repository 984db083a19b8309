use Rattle.cert_check.proofs.ColumnLemmas.{PassBefore-next}
use Rattle.cert_check.proofs.columns.first_false_column.Goals as goal

pub loop-j-preserved : goal.loop-j-preserved
loop-j-preserved c =
    PassBefore-next c.args.problem.now c.args.den c.args.on.now c.loop-j.j c.loop-j.invariant
    c.in_ok-is_below.ensures.0 (c.in_ok-is_below.ensures.1.0 c.if-not-branch.false)
