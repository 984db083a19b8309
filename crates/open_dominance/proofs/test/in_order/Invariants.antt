use Rattle.std.proofs.Common.{◌≡◌, ◌++◌, drop, pos}
use Rattle.integers.specs.Fraction.{fraction_of}
use Rattle.lp_macbeth.specs.ClosedWeighting.{in_order}
use Rattle.open_dominance.proofs.test.in_order.Given as goal

abbrev pub invariant-loop-criterion : goal.invariant-loop-criterion
invariant-loop-criterion l = l.ordered.items ++ in_order (fraction_of (pos 0)) (drop l.criterion-index l.order) l.gaps ≡ in_order (fraction_of (pos 0)) l.order l.gaps
