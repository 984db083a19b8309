use Rattle.std.proofs.Common.{rules, ◌≡◌, neg_ℤ, pos, ◌<ℤ◌}
use Rattle.frac128.proofs.Fits.{IsLowest-neg_comm}
use Rattle.frac128.proofs.frac.Frac.reciprocal.Goals as goal

-- both signs changed
pub invariant_of-t-7 : goal.invariant_of-t-7
invariant_of-t-7 c =
    let num_is : c.negated.result ≡ neg_ℤ c.self.inside.den = search rules in
    let den_is : c.negated-then-lt.result ≡ neg_ℤ c.self.inside.num = search rules in
    let positive : pos 0 <ℤ neg_ℤ c.self.inside.num = search rules in
    rw (num_is, den_is) (positive, IsLowest-neg_comm c.self.inside.num c.self.inside.den c.self.invariant.1)
