use Rattle.std.proofs.Common.{◌∙◌, sym, ap, ap₂, refl}
use Rattle.std.specs.Prelude.{true, false}
use Rattle.lp_macbeth.specs.Passing.{left_after, rests_after}
use Rattle.lp_macbeth.proofs.LoopLemmas.{rest_item, all_done}
use Rattle.std.proofs.lemmas.List.{at_drop_all}
use Rattle.lp_macbeth.proofs.PassLemmas.{left_next, rests_next, same_category, other_category}
use Rattle.lp_macbeth.proofs.passing.pass_at.Goals.{then-own-category+in_ok-push, else-own-category+in_ok-push-2}
use Rattle.lp_macbeth.proofs.passing.pass_at.Goals as goal

pub loop-own-preserved : goal.loop-own-preserved
loop-own-preserved c =
    let h = c.args.category in
    let ws = c.args.weights.now in
    let x = c.loop-own-item.result in
    let here = c.loop-own in
    let i = here.own-index in
    let now = c.if-own-category in
    let first = rest_item ws i x c.loop-own-test.true c.loop-own-item.is in
    elim c.if-own-category.branch [
      | then-own-category+in_ok-push w ↦ (
          let of = same_category x.0 h w.if-own-category.true in
          let left = w.left-is ∙ w.less-left.ensures in
          record {
            left = left_next h i here.left now.left x true ws (left_after h c.args.amount ws) first of left here.invariant.left;
            rests = rests_next h i here.left now.left w.less.result x true ws here.rests.items (rests_after h c.args.amount ws) now.rests.items first of left
                w.less.ensures here.invariant.rests (ap (λ v. v.items) w.rests-is ∙ w.in_ok-push.ensures.items);
          })
      | else-own-category+in_ok-push-2 w ↦ (
          let of = other_category x.0 h w.if-own-category.false in
          record {
            left = left_next h i here.left now.left x false ws (left_after h c.args.amount ws) first of w.left-is here.invariant.left;
            rests = rests_next h i here.left now.left x.1 x false ws here.rests.items (rests_after h c.args.amount ws) now.rests.items first of w.left-is refl
                here.invariant.rests (ap (λ v. v.items) w.rests-is ∙ w.in_ok-push-2.ensures.items);
          })
    ]

pub returns : goal.returns
returns c =
    let h = c.args.category in
    let ws = c.args.weights.now in
    let here = c.loop-own in
    ap₂ (λ a b. (a, b)) (sym (at_drop_all (left_after h here.left) ws here.own-index c.loop-own-test.false) ∙ here.invariant.left)
    (c.make.ensures
    ∙ all_done (rests_after h here.left) ws here.own-index here.rests.items (rests_after h c.args.amount ws) refl c.loop-own-test.false here.invariant.rests)
