use Rattle.std.proofs.Common.{rules, ◌≡◌, neg_ℤ}
use Rattle.frac128.proofs.Fits.{IsReduced-opposite}
use Rattle.frac128.proofs.frac.Frac.opposite.Goals as goal

pub invariant_of-result : goal.invariant_of-result
invariant_of-result c =
    let num_is : c.negated.result ≡ neg_ℤ c.self.inside.num = search rules in
    rw num_is (IsReduced-opposite (record { num = c.self.inside.num; den = c.self.inside.den }) c.self.invariant)
