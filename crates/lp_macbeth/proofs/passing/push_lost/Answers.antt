use Rattle.std.proofs.Common.{◌≡◌, ◌-◌, ◌<◌, ◌≤◌, ◌++◌, ◌∷◌, [], ◌∙◌, ap, rules}
use Rattle.lp_macbeth.specs.Passing.{lost}
use Rattle.lp_macbeth.proofs.PassLemmas.{lost_take, lost_skip}
use Rattle.lp_macbeth.proofs.passing.push_lost.Goals as goal
use Rattle.lp_macbeth.proofs.passing.push_lost.Goals.{then-own-category+in_ok-push, else-own-category}

pub loop-place-preserved : goal.loop-place-preserved
loop-place-preserved c =
    elim c.if-own-category.branch [
      | then-own-category+in_ok-push w ↦ (
          let x = c.index-before-place.result in
          let y = w.index-after-place.result in
          let low : x.0 < c.args.category = search rules in
          let off : w.less.result ≡ x.1 - y.1 = search rules in
          let made : c.if-own-category.taken.items ≡ c.loop-place.taken.items ++ w.less.result ∷ [] = search rules in
          lost_take c.args.category c.loop-place.place c.args.before.now c.args.after.now x y c.loop-place.taken.items
          (c.args.taken.now.items ++ lost c.args.category c.args.before.now c.args.after.now) c.if-own-category.taken.items
          c.loop-place-test.true c.requires c.index-before-place.is w.index-after-place.is low c.loop-place.invariant
          (made ∙ ap (λ z. c.loop-place.taken.items ++ z ∷ []) off))
      | else-own-category w ↦ (
          let x = c.index-before-place.result in
          let high : c.args.category ≤ x.0 = search rules in
          lost_skip c.args.category c.loop-place.place c.args.before.now c.args.after.now x c.loop-place.taken.items
          (c.args.taken.now.items ++ lost c.args.category c.args.before.now c.args.after.now) c.if-own-category.taken.items
          c.loop-place-test.true c.requires c.index-before-place.is high c.loop-place.invariant (ap (λ t. t.items) w.taken-is))
    ]
