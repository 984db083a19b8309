use Rattle.std.proofs.Common.{◌≡◌, ◌<◌, ◌++◌, ◌∷◌, [], None, length, map, take, drop, sym, ap, subst, ◌∙◌, arith, rules}
use Rattle.std.proofs.lemmas.Grind.{common_steps}
use Rattle.judgement_matrix.specs.Change.{grown}
use Rattle.model_core.specs.State.{ModelState, IsModel}
use Rattle.model_core.specs.declared.limits.TheConstants.{CRITERIA}
use Rattle.model_core.proofs.CriterionLemmas.{IsModel-wider}
use Rattle.model_core.proofs.model.Model.push_criterion.Goals as goal

pub invariant_of-self-2 : goal.invariant_of-self-2
invariant_of-self-2 c =
    let m : ModelState = record {
      options = c.self.inside.options;
      criteria = c.self.inside.criteria;
      groups = c.self.inside.groups;
      performances = c.self.inside.rows.items;
      order = c.self.inside.order.items;
      weighting = c.self.inside.weighting;
    } in
    let room : length m.criteria < CRITERIA = subst (λ k. length k.criteria < CRITERIA) (sym c.self.view_is) c.requires.room in
    let rows : take c.self.inside.rows.len (c.widen.new.rows ++ drop (length c.widen.new.rows) c.self.inside.rows.items) ≡ map (λ row. row ++ None ∷ []) m.performances =
    grind (arith, common_steps) in
    let order : c.push-2.new.self.items ≡ m.order ++ length m.criteria ∷ [] = search rules in
    let criteria : c.push.new.self ≡ m.criteria ++ c.args.criterion ∷ [] = search rules in
    let weighting : c.in_ok-weighting.weighting ≡ grown m.weighting = c.in_ok-weighting.ensures in
    subst IsModel (λ i. record {
      options = m.options;
      criteria = sym criteria i;
      groups = m.groups;
      performances = sym rows i;
      order = sym order i;
      weighting = sym weighting i;
    }) (IsModel-wider m c.args.criterion c.self.invariant room c.requires.root)
