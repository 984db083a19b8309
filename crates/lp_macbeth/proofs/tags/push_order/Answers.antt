use Rattle.std.proofs.Common.{◌++◌, ◌+◌, ◌-◌, ap, map}
use Rattle.std.specs.List.{range_with_len}
use Rattle.integers.proofs.Loops.{push_next}
use Rattle.judgement_matrix.specs.Rows.{order_rows}
use Rattle.judgement_matrix.specs.declared.tag.Tag.TheVariants.{Order}
use Rattle.lp_macbeth.proofs.PairLemmas.{range_with_len-next}
use Rattle.lp_macbeth.proofs.tags.push_order.Goals as goal

pub loop-p-preserved : goal.loop-p-preserved
loop-p-preserved c =
    let n = c.size-size.result in
    let p = c.loop-p.p in
    push_next c.loop-p.tags.items (c.args.tags.now.items ++ order_rows c.args.matrix.now) (map (λ p. Order p) (range_with_len p (n - p)))
    (map (λ p. Order p) (range_with_len (p + 1) (n - (p + 1)))) c.push.new.self.items (Order p)
    c.loop-p.invariant (ap (map (λ p. Order p)) (range_with_len-next p n c.loop-p-test.true)) c.in_ok-push.ensures.items
