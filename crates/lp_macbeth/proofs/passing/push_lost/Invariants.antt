use Rattle.std.proofs.Common.{◌≡◌, ◌++◌, drop}
use Rattle.lp_macbeth.specs.Passing.{lost}
use Rattle.lp_macbeth.proofs.passing.push_lost.Given as goal

abbrev pub invariant-loop-place : goal.invariant-loop-place
invariant-loop-place l = l.taken.items ++ lost l.category (drop l.place l.before) (drop l.place l.after) ≡ l.fn.taken.items ++ lost l.category l.before l.after
