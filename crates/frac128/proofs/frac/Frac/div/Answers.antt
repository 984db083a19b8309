use Rattle.std.proofs.Common.{subst}
use Rattle.integers.specs.Fraction.{fraction_product}
use Rattle.frac128.specs.Checked.{IsExact, ProductFits}
use Rattle.frac128.proofs.Checked.{exact_quotient, product_with_reciprocal}
use Rattle.frac128.proofs.frac.Frac.div.Goals as goal

pub returns-clause-is : goal.returns-clause-is
returns-clause-is c = product_with_reciprocal c.args.self.now c.args.other.now c.reciprocal.result c.mul.result c.reciprocal.ensures c.mul.ensures.is

-- the product with the reciprocal is the quotient
pub returns-clause-exact : goal.returns-clause-exact
returns-clause-exact c =
    let product =
    subst (λ t. IsExact c.mul.result (ProductFits c.args.self.now t) (fraction_product c.args.self.now t)) c.reciprocal.ensures c.mul.ensures.exact in
    exact_quotient c.args.self.now c.args.other.now c.mul.result product
