use Rattle.std.proofs.Common.{◌≡◌, drop, pos}
use Rattle.integers.specs.Fraction.{fraction_of}
use Rattle.open_dominance.specs.Test.{sums_stay}
use Rattle.open_dominance.proofs.test.sums_stay.Given as goal

abbrev pub invariant-loop-fraction : goal.invariant-loop-fraction
invariant-loop-fraction l = sums_stay l.sum (drop l.fraction-index l.fractions) ≡ sums_stay (fraction_of (pos 0)) l.fractions
