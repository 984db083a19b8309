use Rattle.std.proofs.Common.{rules, ◌≡◌, ◌∙◌, subst, ap}
use Rattle.model_core.specs.State.{IsModel}
use Rattle.model_core.proofs.KeepLemmas.{IsModel-parts}
use Rattle.model_core.proofs.model.Model.copy.Goals as goal

pub invariant_of-result : goal.invariant_of-result
invariant_of-result c =
    let lists = c.in_ok-options.ensures in
    let rows = c.in_ok-rows.ensures in
    let is = subst IsModel c.self.view_is c.self.invariant in
    let weighting : c.in_ok-weighting.weighting ≡ c.args.self.now.weighting = search rules in
    IsModel-parts _ is _ _ _ _ _ _ lists.options lists.criteria lists.groups rows.rows rows.order weighting
