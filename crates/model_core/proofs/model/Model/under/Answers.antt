use Rattle.std.proofs.Common.{◌≡◌, ◌↔◌, ◌<◌, length, sym, ap, subst, ◌∙◌, arith}
use Rattle.std.specs.Option.{IfSome}
use Rattle.std.proofs.lemmas.Option.{get_or_from_slice_get}
use Rattle.model_core.specs.State.{no_criterion, parent_of}
use Rattle.model_core.specs.Finding.{criterion_at, LiesUnder}
use Rattle.model_core.proofs.GroupLemmas.{LiesUnder-root, LiesUnder-parent, parent_read, smaller, never}
use Rattle.model_core.proofs.KeepLemmas.{if_some}
use Rattle.model_core.proofs.model.Model.under.Goals as goal

pub loop-at-init : goal.loop-at-init
loop-at-init c =
    let m = c.args.self.now in
    let is : c.group-at.result ≡ (criterion_at m c.args.criterion).group =
    c.group-at.ensures ∙ ap (λ x. x.group) (sym (get_or_from_slice_get m.criteria c.args.criterion c.criterion.result.now no_criterion c.criterion.ensures.criterion)) in
    record {
      within = λ k e. if_some c.criterion.result.now.group (λ g. g < length m.groups) k (sym c.group-at.ensures ∙ e) c.criterion.ensures.placed;
      so_far = subst (λ o. LiesUnder m.groups (criterion_at m c.args.criterion).group c.args.group ↔ LiesUnder m.groups o c.args.group) (sym is) (λ h. h, λ h. h);
    }

pub loop-at-smaller : goal.loop-at-smaller
loop-at-smaller c =
    smaller c.parent-at.result c.loop-at.at c.in-Some.place c.in-Some.is
    (subst (λ o. IfSome o (λ above. above < c.in-Some.place)) (sym c.parent-at.ensures) c.group.ensures.parent)

pub loop-at-preserved : goal.loop-at-preserved
loop-at-preserved c =
    let groups = c.args.self.now.groups in
    let g = c.args.group in
    let place = c.in-Some.place in
    let parent : parent_of groups place ≡ c.parent-at.result = parent_read groups place c.group.result.now c.group.ensures.group ∙ sym c.parent-at.ensures in
    let steps = LiesUnder-parent groups place g c.if-place-group.false in
    let so_far = c.loop-at.invariant.so_far in
    record {
      within = λ k e.
          let above : k < place = if_some c.group.result.now.parent (λ above. above < place) k (sym c.parent-at.ensures ∙ e) c.group.ensures.parent in
          let there : place < length groups = c.loop-at.invariant.within place c.in-Some.is in
          omega (arith, above, there);
      so_far = (
        λ h. subst (λ o. LiesUnder groups o g) parent (steps.0 (subst (λ o. LiesUnder groups o g) c.in-Some.is (so_far.0 h))),
        λ h. so_far.1 (subst (λ o. LiesUnder groups o g) (sym c.in-Some.is) (steps.1 (subst (λ o. LiesUnder groups o g) (sym parent) h))),
      );
    }

pub returns : goal.returns
returns c =
    let groups = c.args.self.now.groups in
    (λ h. absurd (never h), λ h. absurd (LiesUnder-root groups c.args.group (subst (λ o. LiesUnder groups o c.args.group) c.in_default.is (c.loop-at.invariant.so_far.0 h))))
