use Rattle.std.proofs.Common.{◌≡◌, [], sym, subst, rules}
use Rattle.model_core.specs.State.{IsModel}
use Rattle.model_core.proofs.KeepLemmas.{IsModel-empty}
use Rattle.model_core.proofs.model.Model.empty.Goals as goal

pub invariant_of-result : goal.invariant_of-result
invariant_of-result c =
    let rows : c.new-5.result.items ≡ [] = search rules in
    let order : c.new-6.result.items ≡ [] = search rules in
    subst IsModel (λ i. record {
      options = sym c.new-2.ensures i;
      criteria = sym c.new-3.ensures i;
      groups = sym c.new-4.ensures i;
      performances = sym rows i;
      order = sym order i;
      weighting = sym c.in_ok-weighting.ensures i;
    }) IsModel-empty
