use Rattle.std.specs.Bool.{Decides}
use Rattle.std.specs.Cmp.Lexicographic.{pointwise_decides}
use Rattle.std.proofs.Common.{◌≡◌, sym, subst}
use Rattle.frac128.proofs.laws.are_equal_lists.Goals as goal

pub returns : goal.returns
returns g c h = subst (λ r. Decides r (c.args.a.now ≡ c.args.b.now)) (sym c.eq.ensures) (pointwise_decides h c.args.a.now c.args.b.now)
