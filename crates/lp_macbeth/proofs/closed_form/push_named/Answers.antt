use Rattle.std.proofs.Common.{◌++◌, ◌∙◌, ap, map, refl}
use Rattle.lp_macbeth.specs.ClosedThreshold.{with_thresholds}
use Rattle.lp_macbeth.proofs.LoopLemmas.{map_next, all_done}
use Rattle.lp_macbeth.proofs.closed_form.push_named.Goals as goal

pub loop-row-preserved : goal.loop-row-preserved
loop-row-preserved c =
    let rows = c.args.named.now in
    let here = c.loop-row in
    let row = c.row-item.result in
    map_next with_thresholds rows here.row-index row here.rows.items (c.args.rows.now.items ++ map with_thresholds rows) c.push.new.self.items
    c.in_ok-named_row.field-0 c.loop-row-test.true here.invariant (c.in_ok-named_row.ensures ∙ ap with_thresholds c.row-item.is) c.in_ok-push.ensures.items

pub returns : goal.returns
returns c =
    all_done (map with_thresholds) c.args.named.now c.loop-row.row-index c.loop-row.rows.items (c.args.rows.now.items ++ map with_thresholds c.args.named.now) refl
    c.loop-row-test.false c.loop-row.invariant
