use Rattle.std.proofs.Common.{refl, inl}
use Rattle.judgement_matrix.specs.Matrix.{cleared}
use Rattle.model_core.specs.State.{CriterionState}
use Rattle.model_core.proofs.KeepLemmas.{IsModel-changed}
use Rattle.model_core.proofs.model.Model.clear_at.Goals as goal

pub invariant_of-self : goal.invariant_of-self
invariant_of-self c =
    let f : CriterionState → CriterionState = λ x. record x { matrix = cleared x.matrix c.args.upper c.args.lower } in
    IsModel-changed f (λ x. refl) _ (λ x g has. inl has) c.self.invariant c.args.criterion c.change.new.self c.change.ensures
