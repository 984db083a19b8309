use Rattle.std.proofs.Common.{◌∙◌, sym, refl}
use Rattle.std.specs.Prelude.{true, false}
use Rattle.std.proofs.lemmas.List.{at_drop_all}
use Rattle.lp_macbeth.specs.Passing.{spread, after_spread}
use Rattle.lp_macbeth.proofs.LoopLemmas.{rest_item, all_done}
use Rattle.lp_macbeth.proofs.TranslationLoopLemmas.{spread_next, after_next}
use Rattle.lp_macbeth.proofs.translation.spread.Goals.{then-has_row, else-has_row}
use Rattle.lp_macbeth.proofs.translation.spread.Goals as goal

pub loop-range-preserved : goal.loop-range-preserved
loop-range-preserved c =
    let kind = c.args.kind in
    let ranges = c.args.ranges.now in
    let start = c.args.supply.now in
    let here = c.loop-range in
    let i = here.range-index in
    let x = c.range-item.result in
    let now = c.if-has_row in
    let first = rest_item ranges i x c.loop-range-test.true c.range-item.is in
    elim c.if-has_row.branch [
      | then-has_row w ↦ (
          let has = sym c.has_row.ensures ∙ w.if-has_row.true in
          let left = w.supply-is ∙ w.take.ensures.rest in
          record {
            weights = spread_next kind ranges i x true c.category.result now.weight here.supply now.supply here.weights.items (spread kind ranges start)
                c.push.new.self.items first has c.category.ensures (w.weight-is ∙ w.take.ensures.weight) left here.invariant.weights c.in_ok-push.ensures.items;
            rest = after_next kind ranges i x true here.supply now.supply (after_spread kind ranges start) first has left here.invariant.rest;
          })
      | else-has_row w ↦ (
          let has = sym c.has_row.ensures ∙ w.if-has_row.false in
          record {
            weights = spread_next kind ranges i x false c.category.result now.weight here.supply now.supply here.weights.items (spread kind ranges start)
                c.push.new.self.items first has c.category.ensures w.weight-is w.supply-is here.invariant.weights c.in_ok-push.ensures.items;
            rest = after_next kind ranges i x false here.supply now.supply (after_spread kind ranges start) first has w.supply-is here.invariant.rest;
          })
    ]

pub returns-clause-weights : goal.returns-clause-weights
returns-clause-weights c =
    let here = c.loop-range in
    c.make.ensures
    ∙ all_done (λ l. spread c.args.kind l here.supply) c.args.ranges.now here.range-index here.weights.items
    (spread c.args.kind c.args.ranges.now c.args.supply.now) refl c.loop-range-test.false here.invariant.weights

pub returns-clause-rest : goal.returns-clause-rest
returns-clause-rest c =
    let here = c.loop-range in
    sym (at_drop_all (λ l. after_spread c.args.kind l here.supply) c.args.ranges.now here.range-index c.loop-range-test.false) ∙ here.invariant.rest
