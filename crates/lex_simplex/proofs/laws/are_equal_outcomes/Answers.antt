use Rattle.std.specs.Bool.{Decides}
use Rattle.std.proofs.Common.{◌≡◌, sym, subst}
use Rattle.lex_simplex.proofs.Ends.Same.{outcome_Decides}
use Rattle.lex_simplex.proofs.laws.are_equal_outcomes.Goals as goal

pub returns : goal.returns
returns c = subst (λ r. Decides r (c.args.a.now ≡ c.args.b.now)) (sym c.eq.ensures) (outcome_Decides c.args.a.now c.args.b.now)
