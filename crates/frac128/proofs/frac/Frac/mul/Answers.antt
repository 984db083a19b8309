use Rattle.std.proofs.Common.{rules, pos, ◌<ℤ◌}
use Rattle.integers.proofs.Divisibility.{gcd_of_pos}
use Rattle.frac128.proofs.Checked.{checked_product-is}
use Rattle.frac128.proofs.frac.Frac.mul.Goals as goal

pub mul_by-requires-clause-positive : goal.mul_by-requires-clause-positive
mul_by-requires-clause-positive c = (
  rw c.common_divisor-first.ensures.is (gcd_of_pos c.self.inside.num c.other.inside.den c.other.invariant.0),
  rw c.common_divisor-second.ensures.is (gcd_of_pos c.other.inside.num c.self.inside.den c.self.invariant.0),
)

pub returns-clause-is : goal.returns-clause-is
returns-clause-is c =
    let left : pos 0 <ℤ c.args.self.now.den = search rules in
    let right : pos 0 <ℤ c.args.other.now.den = search rules in
    checked_product-is c.args.self.now c.args.other.now c.mul_by.result left right c.mul_by.ensures
