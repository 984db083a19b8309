use Rattle.std.proofs.Common.{pos, ◌<ℤ◌, sym, subst}
use Rattle.integers.proofs.Divisibility.{gcd_of_pos}
use Rattle.lp_macbeth.proofs.weighting.with_factor.Goals as goal

pub quotient-requires : goal.quotient-requires
quotient-requires c = subst (λ z. pos 0 <ℤ z) (sym c.common_divisor.ensures.is) (gcd_of_pos c.args.number c.args.other c.requires)
