use Rattle.std.specs.Bool.{Decides}
use Rattle.std.proofs.Common.{◌≡◌, sym, subst}
use Rattle.value_scale.proofs.SameLemmas.{basic_Decides}
use Rattle.value_scale.proofs.laws.are_equal_basics.Goals as goal

pub returns : goal.returns
returns c = subst (λ r. Decides r (c.args.a.now ≡ c.args.b.now)) (sym c.eq.ensures) (basic_Decides c.args.a.now c.args.b.now)
