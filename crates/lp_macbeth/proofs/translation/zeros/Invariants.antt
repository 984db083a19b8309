use Rattle.std.proofs.Common.{◌≡◌, ◌++◌, ◌-◌, replicate}
use Rattle.lp_macbeth.proofs.translation.zeros.Given as goal

abbrev pub invariant-loop-row : goal.invariant-loop-row
invariant-loop-row l = l.weights.items ++ replicate (l.fn.count - l._row) 0 ≡ replicate l.fn.count 0
