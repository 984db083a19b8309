use Rattle.std.proofs.Common.{◌++◌, ◌∙◌, ap, refl}
use Rattle.lp_macbeth.specs.Passing.{at_zero}
use Rattle.lp_macbeth.proofs.LoopLemmas.{rest_item, all_done}
use Rattle.lp_macbeth.proofs.TranslationLoopLemmas.{zero_take, zero_skip}
use Rattle.lp_macbeth.proofs.translation.push_zeros.Goals.{then-category-eq0+in_ok-push, else-category-eq0}
use Rattle.lp_macbeth.proofs.translation.push_zeros.Goals as goal

pub loop-category-preserved : goal.loop-category-preserved
loop-category-preserved c =
    let xs = c.args.equals.now in
    let here = c.loop-category in
    let i = here.category-index in
    let x = c.loop-category-item.result in
    let all = c.args.own.now.items ++ at_zero xs in
    let first = rest_item xs i x c.loop-category-test.true c.loop-category-item.is in
    elim c.if-category-eq0.branch [
      | then-category-eq0+in_ok-push w ↦ zero_take xs i x here.own.items all c.if-category-eq0.own.items first w.if-category-eq0.true here.invariant
          (ap (λ v. v.items) w.own-is ∙ w.in_ok-push.ensures.items)
      | else-category-eq0 w ↦ zero_skip xs i x here.own.items all c.if-category-eq0.own.items first w.if-category-eq0.false here.invariant
          (ap (λ v. v.items) w.own-is)
    ]

pub returns : goal.returns
returns c = all_done at_zero c.args.equals.now c.loop-category.category-index c.loop-category.own.items (c.args.own.now.items ++ at_zero c.args.equals.now) refl
    c.loop-category-test.false c.loop-category.invariant
