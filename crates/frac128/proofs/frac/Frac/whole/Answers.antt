use Rattle.std.proofs.Common.{pos}
use Rattle.integers.proofs.Divisibility.{IsLowest-whole}
use Rattle.integers.proofs.FractionSums.{IsFraction-whole}
use Rattle.frac128.proofs.frac.Frac.whole.Goals as goal

pub invariant_of-result-2 : goal.invariant_of-result-2
invariant_of-result-2 c = (IsFraction-whole (pos 0), IsLowest-whole c.known.result)
