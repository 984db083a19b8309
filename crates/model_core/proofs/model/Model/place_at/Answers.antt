use Rattle.std.proofs.Common.{◌<◌, length, refl, inr, subst, sym}
use Rattle.std.specs.Option.{IfSome}
use Rattle.model_core.specs.State.{CriterionState}
use Rattle.model_core.proofs.KeepLemmas.{IsModel-changed, if_some}
use Rattle.model_core.proofs.model.Model.place_at.Goals as goal

pub invariant_of-self : goal.invariant_of-self
invariant_of-self c =
    let f : CriterionState → CriterionState = λ x. record x { group = c.args.into } in
    let low : IfSome c.args.into (λ at. at < length c.self.inside.groups) =
    subst (λ m. IfSome c.args.into (λ at. at < length m.groups)) (sym c.self.view_is) c.requires.group in
    IsModel-changed f (λ x. refl) _ (λ x g has. inr (if_some c.args.into (λ at. at < length c.self.inside.groups) g has low)) c.self.invariant c.args.criterion
    c.change.new.self c.change.ensures
