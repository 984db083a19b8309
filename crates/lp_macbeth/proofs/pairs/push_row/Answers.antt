use Rattle.std.proofs.Common.{◌++◌, ◌+◌, ◌-◌, ap, map}
use Rattle.std.specs.List.{range_with_len}
use Rattle.integers.proofs.Loops.{push_next}
use Rattle.lp_macbeth.specs.Pairs.{row}
use Rattle.lp_macbeth.proofs.PairLemmas.{range_with_len-next}
use Rattle.lp_macbeth.proofs.pairs.push_row.Goals as goal

pub loop-q-preserved : goal.loop-q-preserved
loop-q-preserved c =
    let n = c.args.n in
    let p = c.args.p in
    let q = c.loop-q.q in
    push_next c.loop-q.pairs.items (c.args.pairs.now.items ++ row n p) (map (λ q. (p, q)) (range_with_len q (n + 1 - q)))
    (map (λ q. (p, q)) (range_with_len (q + 1) (n + 1 - (q + 1)))) c.push.new.self.items (p, q)
    c.loop-q.invariant (ap (map (λ q. (p, q))) (range_with_len-next q (n + 1) c.loop-q-test.true)) c.in_ok-push.ensures.items
