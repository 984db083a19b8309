use Rattle.std.proofs.Common.{◌≡◌, ◌+◌, ◌-◌, ◌++◌, ◌∷◌, [], Some, slice_get, ap, sym, subst, ◌∙◌, arith}
use Rattle.model_core.proofs.RosterLemmas.{take-more}
use Rattle.session_edits.proofs.names.element_names.Goals as goal

pub loop-at-preserved : goal.loop-at-preserved
loop-at-preserved c =
    let xs = c.args.criterion.now.elements in
    let back : (c.loop-at.at + 1) - 1 ≡ c.loop-at.at = omega arith in
    let there : slice_get xs c.loop-at.at ≡ Some c.in_ok-copy.field-0 =
    subst (λ k. slice_get xs k ≡ Some c.element.result.now) back c.element.ensures ∙ ap Some (sym c.in_ok-copy.ensures) in
    c.in_ok-push.ensures.items ∙ ap (λ l. l ++ c.in_ok-copy.field-0 ∷ []) c.loop-at.invariant ∙ sym (take-more xs c.loop-at.at c.in_ok-copy.field-0 there)
