use Rattle.std.proofs.Common.{◌≡◌, ◌<◌, ◌++◌, length, map, remove, take, drop, sym, ap, subst, ◌∙◌, arith}
use Rattle.std.proofs.lemmas.Grind.{common_steps}
use Rattle.judgement_matrix.specs.Change.{without}
use Rattle.model_core.specs.State.{ModelState, IsModel}
use Rattle.model_core.specs.Finding.{place_in}
use Rattle.model_core.specs.Edits.{order_without}
use Rattle.model_core.proofs.CriterionLemmas.{IsModel-narrower}
use Rattle.model_core.proofs.model.Model.remove_criterion.Goals as goal

pub invariant_of-self : goal.invariant_of-self
invariant_of-self c =
    let at = c.args.criterion in
    let m : ModelState = record {
      options = c.self.inside.options;
      criteria = c.self.inside.criteria;
      groups = c.self.inside.groups;
      performances = c.self.inside.rows.items;
      order = c.self.inside.order.items;
      weighting = c.self.inside.weighting;
    } in
    let there : at < length m.criteria = subst (λ k. at < length k.criteria) (sym c.self.view_is) c.requires in
    let rows : take c.self.inside.rows.len (c.narrow.new.rows ++ drop (length c.narrow.new.rows) c.self.inside.rows.items) ≡ map (λ row. remove row at) m.performances =
    grind (arith, common_steps) in
    let order : take c.remove-2.new.self.len (c.close_up.new.numbers ++ drop (length c.close_up.new.numbers) c.remove-2.new.self.items) ≡ order_without m at = grind (arith, common_steps) in
    let weighting : c.remove.new.self ≡ without m.weighting (place_in m.order at) =
    c.remove.ensures ∙ ap (without m.weighting) (c.place_of-place.ensures.place ∙ ap (λ k. place_in k.order at) (sym c.self.view_is)) in
    subst IsModel (λ i. record {
      options = m.options;
      criteria = sym c.remove-3.ensures i;
      groups = m.groups;
      performances = sym rows i;
      order = sym order i;
      weighting = sym weighting i;
    }) (IsModel-narrower m at c.self.invariant there)
