use Rattle.std.proofs.Common.{◌++◌, refl}
use Rattle.lp_macbeth.specs.Threshold.{below_rows_of}
use Rattle.lp_macbeth.proofs.LoopLemmas.{piece_next, all_done}
use Rattle.lp_macbeth.proofs.ThresholdTagLemmas.{below_rows_of-append}
use Rattle.lp_macbeth.proofs.threshold_lists.push_below.Goals as goal

pub push_below_of-requires : goal.push_below_of-requires
push_below_of-requires c = c.requires c.loop-pair.pair-index (0, 0) c.loop-pair-test.true

pub loop-pair-preserved : goal.loop-pair-preserved
loop-pair-preserved c =
    let m = c.args.matrix.now in
    piece_next (below_rows_of m) (below_rows_of-append m) c.args.pairs.now c.loop-pair.pair-index (0, 0) c.loop-pair.tags.items
    (c.args.tags.now.items ++ below_rows_of m c.args.pairs.now) c.push_below_of.new.tags.items c.loop-pair-test.true c.loop-pair.invariant c.in_ok-push_below_of.ensures

pub returns : goal.returns
returns c =
    let m = c.args.matrix.now in
    all_done (below_rows_of m) c.args.pairs.now c.loop-pair.pair-index c.loop-pair.tags.items (c.args.tags.now.items ++ below_rows_of m c.args.pairs.now) refl
    c.loop-pair-test.false c.loop-pair.invariant
