use Rattle.std.proofs.Common.{◌≡◌, ◌++◌, drop}
use Rattle.lp_macbeth.specs.Passing.{at_zero}
use Rattle.lp_macbeth.proofs.translation.push_zeros.Given as goal

abbrev pub invariant-loop-category : goal.invariant-loop-category
invariant-loop-category l = l.own.items ++ at_zero (drop l.category-index l.equals) ≡ l.fn.own.items ++ at_zero l.equals
