use Rattle.cert_check.specs.Entries.{coefficient}
use Rattle.cert_check.proofs.SumLemmas.{IsSumBefore}
use Rattle.cert_check.proofs.sums.column_sum.Given as goal

abbrev pub invariant-loop-i : goal.invariant-loop-i
invariant-loop-i l = IsSumBefore (coefficient l.j) l.problem.rows l.on l.i l.sum
