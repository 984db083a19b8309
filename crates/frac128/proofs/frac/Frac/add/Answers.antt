use Rattle.std.proofs.Common.{rules, pos, ◌<ℤ◌}
use Rattle.integers.proofs.Divisibility.{gcd_of_pos}
use Rattle.frac128.proofs.Checked.{checked_sum-is}
use Rattle.frac128.proofs.frac.Frac.add.Goals as goal

pub add_by-requires-clause-positive : goal.add_by-requires-clause-positive
add_by-requires-clause-positive c = rw c.common_divisor.ensures.is (gcd_of_pos c.self.inside.den c.other.inside.den c.other.invariant.0)

pub returns-clause-is : goal.returns-clause-is
returns-clause-is c =
    let left : pos 0 <ℤ c.args.self.now.den = search rules in
    let right : pos 0 <ℤ c.args.other.now.den = search rules in
    checked_sum-is c.args.self.now c.args.other.now c.add_by.result left right c.add_by.ensures
