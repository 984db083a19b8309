use Rattle.std.proofs.Common.{◌≡◌, drop, length}
use Rattle.lp_macbeth.specs.Passing.{with_entries}
use Rattle.lp_macbeth.proofs.translation.put.Given as goal

abbrev pub invariant-loop-position : goal.invariant-loop-position
invariant-loop-position l = record {
  size : length l.weights ≡ length l.fn.weights;
  weights : with_entries l.weights (drop l.position-index l.on) ≡ with_entries l.fn.weights l.on;
}
