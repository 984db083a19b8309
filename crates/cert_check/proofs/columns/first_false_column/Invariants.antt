use Rattle.cert_check.specs.Columns.{PassBefore}
use Rattle.cert_check.proofs.columns.first_false_column.Given as goal

abbrev pub invariant-loop-j : goal.invariant-loop-j
invariant-loop-j l = PassBefore l.problem l.den l.on l.j
