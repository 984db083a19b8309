use Rattle.cert_check.specs.Entries.{bound}
use Rattle.cert_check.proofs.SumLemmas.{IsSumBefore}
use Rattle.cert_check.proofs.sums.bound_sum.Given as goal

abbrev pub invariant-loop-i : goal.invariant-loop-i
invariant-loop-i l = IsSumBefore bound l.problem.rows l.on l.i l.sum
