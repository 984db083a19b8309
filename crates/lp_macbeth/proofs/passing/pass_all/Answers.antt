use Rattle.std.proofs.Common.{◌≡◌, ◌∙◌, ap, ap₂, refl}
use Rattle.lp_macbeth.specs.Passing.{passed, lefts, takings}
use Rattle.lp_macbeth.proofs.LoopLemmas.{rest_item, all_done}
use Rattle.lp_macbeth.proofs.PassLemmas.{kept_take, kept_skip, taken_next}
use Rattle.lp_macbeth.proofs.passing.pass_all.Goals.{then-category-ge1+in_ok-push, else-category-ge1}
use Rattle.lp_macbeth.proofs.passing.pass_all.Goals as goal

pub loop-category-preserved : goal.loop-category-preserved
loop-category-preserved c =
    let ats = c.args.ats.now in
    let belows = c.args.belows.now in
    let at = c.loop-category-item.result in
    let here = c.loop-category in
    let after = c.take_off.new.rests in
    let first = rest_item ats here.category-index at c.loop-category-test.true c.loop-category-item.is in
    let turn : (c.in_ok-left.left, after) ≡ passed at.0 (at.1, here.rests) = c.in_ok-left.ensures.left in
    record {
      kept = elim c.if-category-ge1.branch [
        | then-category-ge1+in_ok-push w ↦ kept_take ats here.rests after here.category-index at c.in_ok-left.left here.kept.items
            (lefts ats belows) c.if-category-ge1.kept.items first turn w.if-category-ge1.true here.invariant.kept
            (ap (λ v. v.items) w.kept-is ∙ w.in_ok-push.ensures.items)
        | else-category-ge1 w ↦ kept_skip ats here.rests after here.category-index at c.in_ok-left.left here.kept.items (lefts ats belows)
            c.if-category-ge1.kept.items first turn w.if-category-ge1.false here.invariant.kept (ap (λ v. v.items) w.kept-is)
      ];
      taken = taken_next ats here.rests after here.category-index at c.in_ok-left.left here.taken.items (takings ats belows)
          c.take_off.new.taken.items first turn here.invariant.taken c.in_ok-left.ensures.taken;
    }

pub returns : goal.returns
returns c =
    let ats = c.args.ats.now in
    let belows = c.args.belows.now in
    let here = c.loop-category in
    ap₂ (λ a b. (a, b))
    (c.make.ensures ∙ all_done (λ l. lefts l here.rests) ats here.category-index here.kept.items (lefts ats belows) refl c.loop-category-test.false here.invariant.kept)
    (c.make-2.ensures
    ∙ all_done (λ l. takings l here.rests) ats here.category-index here.taken.items (takings ats belows) refl c.loop-category-test.false here.invariant.taken)
