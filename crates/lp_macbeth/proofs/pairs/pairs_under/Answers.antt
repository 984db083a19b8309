use Rattle.std.proofs.Common.{refl}
use Rattle.lp_macbeth.specs.Pairs.{under}
use Rattle.lp_macbeth.proofs.LoopLemmas.{piece_next, all_done}
use Rattle.lp_macbeth.proofs.PairLemmas.{under-append}
use Rattle.lp_macbeth.proofs.pairs.pairs_under.Goals as goal

pub push_under-requires : goal.push_under-requires
push_under-requires c = c.requires c.loop-pair.pair-index (0, 0) c.loop-pair-test.true

pub loop-pair-preserved : goal.loop-pair-preserved
loop-pair-preserved c =
    let m = c.args.matrix.now in
    piece_next (λ ps. under m ps c.args.category) (under-append m c.args.category) c.args.pairs.now c.loop-pair.pair-index (0, 0) c.loop-pair.some.items
    (under m c.args.pairs.now c.args.category) c.push_under.new.some.items c.loop-pair-test.true c.loop-pair.invariant c.in_ok-push_under.ensures

pub returns : goal.returns
returns c =
    let m = c.args.matrix.now in
    all_done (λ ps. under m ps c.args.category) c.args.pairs.now c.loop-pair.pair-index c.loop-pair.some.items (under m c.args.pairs.now c.args.category) refl
    c.loop-pair-test.false c.loop-pair.invariant
