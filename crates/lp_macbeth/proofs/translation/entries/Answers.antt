use Rattle.std.proofs.Common.{◌≡◌, ◌++◌, ◌∷◌, [], ◌∙◌, map, pos, ap, refl, rules}
use Rattle.frac128.specs.Entries.{entries_from}
use Rattle.lp_macbeth.proofs.LoopLemmas.{rest_item, all_done}
use Rattle.lp_macbeth.proofs.TranslationLoopLemmas.{entries_take, entries_skip}
use Rattle.lp_macbeth.proofs.translation.entries.Goals.{then-ne+in_ok-push, else-ne}
use Rattle.lp_macbeth.proofs.translation.entries.Goals as goal

pub loop-position-preserved : goal.loop-position-preserved
loop-position-preserved c =
    let ws = c.args.weights.now in
    let here = c.loop-position in
    let i = here.position in
    let x = c.index-weights-position.result in
    let all = entries_from 0 (map (λ w. pos w) ws) in
    let first = rest_item ws i x c.loop-position-test.true c.index-weights-position.is in
    elim c.if-ne.branch [
      | then-ne+in_ok-push w ↦ (
          let made : c.if-ne.on.items ≡ here.on.items ++ (i, pos x) ∷ [] = search rules in
          entries_take ws i x c.ne.result here.on.items all c.if-ne.on.items first c.ne.ensures w.if-ne.true here.invariant made)
      | else-ne w ↦ entries_skip ws i x c.ne.result here.on.items all c.if-ne.on.items first c.ne.ensures w.if-ne.false here.invariant
          (ap (λ v. v.items) w.on-is)
    ]

pub returns : goal.returns
returns c =
    let here = c.loop-position in
    c.make.ensures
    ∙ all_done (λ l. entries_from here.position (map (λ w. pos w) l)) c.args.weights.now here.position here.on.items
    (entries_from 0 (map (λ w. pos w) c.args.weights.now)) refl c.loop-position-test.false here.invariant
