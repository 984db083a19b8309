use Rattle.std.proofs.Common.{◌≡◌, ◌++◌, ◌-◌}
use Rattle.lp_macbeth.specs.Passing.{first_weights}
use Rattle.lp_macbeth.proofs.closed_translation.push_first.Given as goal

abbrev pub invariant-loop-place : goal.invariant-loop-place
invariant-loop-place l = l.own.items ++ first_weights (l.count - l._place) l.supply ≡ l.fn.own.items ++ first_weights l.count l.fn.supply
