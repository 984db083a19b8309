use Rattle.std.proofs.Common.{◌≡◌, ◌++◌, drop}
use Rattle.lp_macbeth.specs.Passing.{left_after, rests_after}
use Rattle.lp_macbeth.proofs.passing.pass_at.Given as goal

abbrev pub invariant-loop-own : goal.invariant-loop-own
invariant-loop-own l = record {
  left : left_after l.category l.left (drop l.own-index l.weights) ≡ left_after l.category l.fn.amount l.weights;
  rests : l.rests.items ++ rests_after l.category l.left (drop l.own-index l.weights) ≡ rests_after l.category l.fn.amount l.weights;
}
