use Rattle.std.proofs.Common.{subst}
use Rattle.integers.specs.Fraction.{fraction_sum}
use Rattle.frac128.specs.Checked.{IsExact, SumFits}
use Rattle.frac128.proofs.Checked.{exact_difference, sum_with_opposite}
use Rattle.frac128.proofs.frac.Frac.sub.Goals as goal

pub returns-clause-is : goal.returns-clause-is
returns-clause-is c = sum_with_opposite c.args.self.now c.args.other.now c.opposite.result c.add.result c.opposite.ensures c.add.ensures.is

-- the sum with the opposite is the difference
pub returns-clause-exact : goal.returns-clause-exact
returns-clause-exact c =
    let sum = subst (λ t. IsExact c.add.result (SumFits c.args.self.now t) (fraction_sum c.args.self.now t)) c.opposite.ensures c.add.ensures.exact in
    exact_difference c.args.self.now c.args.other.now c.add.result sum
