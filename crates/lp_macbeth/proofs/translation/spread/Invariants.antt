use Rattle.std.proofs.Common.{◌≡◌, ◌++◌, drop}
use Rattle.lp_macbeth.specs.Passing.{spread, after_spread}
use Rattle.lp_macbeth.proofs.translation.spread.Given as goal

abbrev pub invariant-loop-range : goal.invariant-loop-range
invariant-loop-range l = record {
  weights : l.weights.items ++ spread l.kind (drop l.range-index l.ranges) l.supply ≡ spread l.kind l.ranges l.fn.supply;
  rest : after_spread l.kind (drop l.range-index l.ranges) l.supply ≡ after_spread l.kind l.ranges l.fn.supply;
}
