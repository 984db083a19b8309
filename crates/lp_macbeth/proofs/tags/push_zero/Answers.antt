use Rattle.std.proofs.Common.{◌++◌, refl}
use Rattle.judgement_matrix.specs.Walk.{zero_rows_of}
use Rattle.lp_macbeth.proofs.LoopLemmas.{piece_next, all_done}
use Rattle.lp_macbeth.proofs.TagLemmas.{zero_rows_of-append}
use Rattle.lp_macbeth.proofs.tags.push_zero.Goals as goal

pub push_zero_of-requires : goal.push_zero_of-requires
push_zero_of-requires c = c.requires c.loop-pair.pair-index (0, 0) c.loop-pair-test.true

pub loop-pair-preserved : goal.loop-pair-preserved
loop-pair-preserved c =
    let m = c.args.matrix.now in
    piece_next (zero_rows_of m) (zero_rows_of-append m) c.args.pairs.now c.loop-pair.pair-index (0, 0) c.loop-pair.tags.items
    (c.args.tags.now.items ++ zero_rows_of m c.args.pairs.now) c.push_zero_of.new.tags.items c.loop-pair-test.true c.loop-pair.invariant c.in_ok-push_zero_of.ensures

pub returns : goal.returns
returns c =
    let m = c.args.matrix.now in
    all_done (zero_rows_of m) c.args.pairs.now c.loop-pair.pair-index c.loop-pair.tags.items (c.args.tags.now.items ++ zero_rows_of m c.args.pairs.now) refl
    c.loop-pair-test.false c.loop-pair.invariant
