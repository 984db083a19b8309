use Rattle.std.proofs.Common.{◌≡◌, ◌<◌, length, map, remove, sym, ap, subst, ◌∙◌}
use Rattle.model_core.specs.State.{ModelState, IsModel, parent_of}
use Rattle.model_core.specs.Edits.{regrouped, reparented}
use Rattle.model_core.proofs.GroupLemmas.{parent_read}
use Rattle.model_core.proofs.GroupGone.{IsModel-ungrouped}
use Rattle.model_core.proofs.model.Model.remove_group.Goals as goal

pub invariant_of-self : goal.invariant_of-self
invariant_of-self c =
    let g = c.args.group in
    let m : ModelState = record {
      options = c.self.inside.options;
      criteria = c.self.inside.criteria;
      groups = c.self.inside.groups;
      performances = c.self.inside.rows.items;
      order = c.self.inside.order.items;
      weighting = c.self.inside.weighting;
    } in
    let there : g < length m.groups = subst (λ k. g < length k.groups) (sym c.self.view_is) c.requires in
    let above : c.parent-above.result ≡ parent_of m.groups g = c.parent-above.ensures ∙ sym (parent_read m.groups g c.get.result.now c.get.ensures) in
    let groups : c.change_each.new.self ≡ map (reparented g (parent_of m.groups g)) (remove m.groups g) =
    c.change_each.ensures ∙ (λ i. map (reparented g (above i)) (c.remove.ensures i)) in
    let criteria : c.change_each-2.new.self ≡ map (regrouped g (parent_of m.groups g)) m.criteria =
    c.change_each-2.ensures ∙ ap (λ o. map (regrouped g o) m.criteria) above in
    subst IsModel (λ i. record {
      options = m.options;
      criteria = sym criteria i;
      groups = sym groups i;
      performances = m.performances;
      order = m.order;
      weighting = m.weighting;
    }) (IsModel-ungrouped m g c.self.invariant there)
