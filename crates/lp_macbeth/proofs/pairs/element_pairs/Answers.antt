use Rattle.std.proofs.Common.{◌+◌, ◌-◌, ap}
use Rattle.std.specs.List.{flat_map, range_with_len}
use Rattle.integers.proofs.Loops.{join_next}
use Rattle.judgement_matrix.specs.Matrix.{pairs}
use Rattle.lp_macbeth.specs.Pairs.{row}
use Rattle.lp_macbeth.proofs.PairLemmas.{range_with_len-next}
use Rattle.lp_macbeth.proofs.pairs.element_pairs.Goals as goal

pub loop-p-preserved : goal.loop-p-preserved
loop-p-preserved c =
    let n = c.args.n in
    let p = c.loop-p.p in
    join_next c.loop-p.pairs.items (pairs n) (flat_map (row n) (range_with_len p (n - p))) (flat_map (row n) (range_with_len (p + 1) (n - (p + 1))))
    c.push_row.new.pairs.items (row n p)
    c.loop-p.invariant (ap (flat_map (row n)) (range_with_len-next p n c.loop-p-test.true)) c.in_ok-push_row.ensures
