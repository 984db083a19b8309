use Rattle.std.proofs.Common.{◌++◌, refl}
use Rattle.lp_macbeth.specs.Threshold.{at_rows_of}
use Rattle.lp_macbeth.proofs.LoopLemmas.{piece_next, all_done}
use Rattle.lp_macbeth.proofs.ThresholdTagLemmas.{at_rows_of-append}
use Rattle.lp_macbeth.proofs.threshold_lists.push_at.Goals as goal

pub push_at_of-requires : goal.push_at_of-requires
push_at_of-requires c = c.requires c.loop-pair.pair-index (0, 0) c.loop-pair-test.true

pub loop-pair-preserved : goal.loop-pair-preserved
loop-pair-preserved c =
    let m = c.args.matrix.now in
    piece_next (at_rows_of m) (at_rows_of-append m) c.args.pairs.now c.loop-pair.pair-index (0, 0) c.loop-pair.tags.items
    (c.args.tags.now.items ++ at_rows_of m c.args.pairs.now) c.push_at_of.new.tags.items c.loop-pair-test.true c.loop-pair.invariant c.in_ok-push_at_of.ensures

pub returns : goal.returns
returns c =
    let m = c.args.matrix.now in
    all_done (at_rows_of m) c.args.pairs.now c.loop-pair.pair-index c.loop-pair.tags.items (c.args.tags.now.items ++ at_rows_of m c.args.pairs.now) refl
    c.loop-pair-test.false c.loop-pair.invariant
