use Rattle.std.specs.Bool.{Decides}
use Rattle.std.proofs.Common.{◌≡◌, sym, subst}
use Rattle.frac128.proofs.Equality.{cert_Decides}
use Rattle.frac128.proofs.laws.are_equal_certs.Goals as goal

pub returns : goal.returns
returns c = subst (λ r. Decides r (c.args.a.now ≡ c.args.b.now)) (sym c.eq.ensures) (cert_Decides c.args.a.now c.args.b.now)
