use Rattle.std.proofs.Common.{◌≡◌, ◌+◌, ◌-◌, Some, slice_get, ap, sym, subst, ◌∙◌, arith}
use Rattle.std.proofs.lemmas.Option.{get_or_from_slice_get}
use Rattle.model_core.specs.State.{CriterionState, no_criterion}
use Rattle.model_core.specs.Finding.{criterion_at}
use Rattle.session_state.proofs.ResultLemmas.{places-push}
use Rattle.session_edits.proofs.names.weighed_names.Goals as goal

pub loop-place-preserved : goal.loop-place-preserved
loop-place-preserved c =
    let m = c.args.model.now in
    let back : (c.loop-place.place + 1) - 1 ≡ c.loop-place.place = omega arith in
    let there = subst (λ k. slice_get m.order k ≡ Some c.order-criterion.result) back c.order-criterion.ensures.value in
    let found = get_or_from_slice_get m.criteria c.order-criterion.result c.criterion.result.now no_criterion c.criterion.ensures.criterion in
    places-push (λ k. (criterion_at m k).name) m.order c.loop-place.place c.order-criterion.result c.in_ok-copy.field-0
    c.loop-place.names.items c.push.new.self.items c.loop-place.invariant there
    (c.in_ok-copy.ensures ∙ c.name.ensures.value ∙ ap (λ (x : CriterionState). x.name) (sym found)) c.in_ok-push.ensures.items
