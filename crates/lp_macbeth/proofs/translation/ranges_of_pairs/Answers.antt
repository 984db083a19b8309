use Rattle.std.proofs.Common.{ℕ, map, refl}
use Rattle.judgement_matrix.specs.Matrix.{range_at}
use Rattle.lp_macbeth.proofs.LoopLemmas.{map_next, all_done}
use Rattle.lp_macbeth.proofs.translation.ranges_of_pairs.Goals as goal

pub range-requires : goal.range-requires
range-requires c = c.requires c.loop-pair.pair-index (0, 0) c.loop-pair-test.true

pub loop-pair-preserved : goal.loop-pair-preserved
loop-pair-preserved c =
    let m = c.args.matrix.now in
    let ps = c.args.pairs.now in
    map_next (λ (pair : ℕ × ℕ). range_at m pair.0 pair.1) ps c.loop-pair.pair-index (0, 0) c.loop-pair.ranges.items
    (map (λ (pair : ℕ × ℕ). range_at m pair.0 pair.1) ps) c.push.new.self.items c.range.result c.loop-pair-test.true c.loop-pair.invariant
    c.range.ensures.value c.in_ok-push.ensures.items

pub returns : goal.returns
returns c =
    let m = c.args.matrix.now in
    let ps = c.args.pairs.now in
    all_done (map (λ (pair : ℕ × ℕ). range_at m pair.0 pair.1)) ps c.loop-pair.pair-index c.loop-pair.ranges.items
    (map (λ (pair : ℕ × ℕ). range_at m pair.0 pair.1) ps) refl c.loop-pair-test.false c.loop-pair.invariant
