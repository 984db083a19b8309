use Rattle.std.proofs.Common.{◌≡◌, drop, pos}
use Rattle.integers.specs.Fraction.{fraction_of}
use Rattle.swing_weights.specs.Weights.{checked_total_from}
use Rattle.swing_weights.proofs.weighing.total.Given as goal

abbrev pub invariant-loop-fraction : goal.invariant-loop-fraction
invariant-loop-fraction l = checked_total_from l.sum (drop l.fraction-index l.fractions) ≡ checked_total_from (fraction_of (pos 0)) l.fractions
