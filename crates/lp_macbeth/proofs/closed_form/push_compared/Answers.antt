use Rattle.std.proofs.Common.{◌++◌, map, refl}
use Rattle.lp_macbeth.specs.declared.threshold_tags.ThresholdTag.TheVariants.{At}
use Rattle.lp_macbeth.specs.ClosedThreshold.{closed_threshold_row_of}
use Rattle.lp_macbeth.proofs.LoopLemmas.{map_next, all_done}
use Rattle.lp_macbeth.proofs.closed_form.push_compared.Goals as goal

pub closed_row-requires : goal.closed_row-requires
closed_row-requires c = c.requires c.loop-tag.tag-index (At 0 0) c.loop-tag-test.true

pub loop-tag-preserved : goal.loop-tag-preserved
loop-tag-preserved c =
    let f = closed_threshold_row_of c.args.matrix.now c.args.further in
    let tags = c.args.tags.now in
    let here = c.loop-tag in
    map_next f tags here.tag-index (At 0 0) here.rows.items (c.args.rows.now.items ++ map f tags) c.push.new.self.items c.in_ok-closed_row.field-0
    c.loop-tag-test.true here.invariant c.in_ok-closed_row.ensures c.in_ok-push.ensures.items

pub returns : goal.returns
returns c =
    let f = closed_threshold_row_of c.args.matrix.now c.args.further in
    all_done (map f) c.args.tags.now c.loop-tag.tag-index c.loop-tag.rows.items (c.args.rows.now.items ++ map f c.args.tags.now) refl
    c.loop-tag-test.false c.loop-tag.invariant
