use Rattle.std.proofs.Common.{◌≡◌, ◌-◌}
use Rattle.lp_macbeth.specs.Passing.{passed}
use Rattle.lp_macbeth.proofs.passing.pass.Given as goal

abbrev pub invariant-loop-above : goal.invariant-loop-above
invariant-loop-above l = passed (l.category - l.above) (l.left, l.rests) ≡ passed l.category (l.fn.amount, l.weights)
