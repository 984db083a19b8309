use Rattle.std.proofs.Common.{◌<◌, ◌≤◌, ◌+◌, length, ◌==◌, sym, ap, subst, ◌∙◌, arith}
use Rattle.std.specs.List.{position_or_len}
use Rattle.model_core.proofs.OrderLemmas.{stands}
use Rattle.model_core.proofs.model.Model.place_of.Goals as goal

pub overflow_add-result : goal.overflow_add-result
overflow_add-result c =
    let there : c.args.criterion < length c.self.inside.criteria = subst (λ m. c.args.criterion < length m.criteria) (sym c.self.view_is) c.requires in
    let below : c.first_place.result < length c.self.inside.criteria =
    subst (λ k. k < length c.self.inside.criteria) (sym (c.first_place.ensures ∙ ap (position_or_len (λ d. d == c.args.criterion)) c.deref.ensures.value))
    (stands (length c.self.inside.criteria) c.self.inside.order.items c.self.invariant.order_is c.args.criterion there) in
    omega (arith, below, c.self.invariant.few_criteria)

pub returns-clause-within : goal.returns-clause-within
returns-clause-within c =
    let there : c.args.criterion < length c.self.inside.criteria = subst (λ m. c.args.criterion < length m.criteria) (sym c.self.view_is) c.requires in
    let below : c.first_place.result < length c.self.inside.criteria =
    subst (λ k. k < length c.self.inside.criteria) (sym (c.first_place.ensures ∙ ap (position_or_len (λ d. d == c.args.criterion)) c.deref.ensures.value))
    (stands (length c.self.inside.criteria) c.self.inside.order.items c.self.invariant.order_is c.args.criterion there) in
    (omega arith, subst (λ m. c.first_place.result + 1 ≤ length m.criteria) c.self.view_is (omega (arith, below)))
