use Rattle.std.proofs.Common.{◌≡◌}
use Rattle.solver_tests.proofs.matrices.numbered.Given as goal

abbrev pub invariant-loop-q : goal.invariant-loop-q
invariant-loop-q l = l.matrix.size ≡ l.size

abbrev pub invariant-loop-p : goal.invariant-loop-p
invariant-loop-p l = l.matrix.size ≡ l.size
