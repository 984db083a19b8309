use Rattle.std.proofs.Common.{◌++◌, refl}
use Rattle.lp_macbeth.specs.ClosedThreshold.{high_rows_of}
use Rattle.lp_macbeth.proofs.LoopLemmas.{piece_next, all_done}
use Rattle.lp_macbeth.proofs.ClosedThresholdLemmas.{high_rows_of-append}
use Rattle.lp_macbeth.proofs.closed_form.push_high.Goals as goal

pub push_high_of-requires : goal.push_high_of-requires
push_high_of-requires c = c.requires c.loop-pair.pair-index (0, 0) c.loop-pair-test.true

pub loop-pair-preserved : goal.loop-pair-preserved
loop-pair-preserved c =
    let m = c.args.matrix.now in
    piece_next (high_rows_of m) (high_rows_of-append m) c.args.pairs.now c.loop-pair.pair-index (0, 0) c.loop-pair.tags.items
    (c.args.tags.now.items ++ high_rows_of m c.args.pairs.now) c.push_high_of.new.tags.items c.loop-pair-test.true c.loop-pair.invariant c.in_ok-push_high_of.ensures

pub returns : goal.returns
returns c =
    let m = c.args.matrix.now in
    all_done (high_rows_of m) c.args.pairs.now c.loop-pair.pair-index c.loop-pair.tags.items (c.args.tags.now.items ++ high_rows_of m c.args.pairs.now) refl
    c.loop-pair-test.false c.loop-pair.invariant
