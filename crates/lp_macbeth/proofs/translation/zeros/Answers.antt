use Rattle.std.proofs.Common.{ℕ, ◌-◌, ◌+◌, replicate}
use Rattle.integers.proofs.Loops.{push_next, replicate-next}
use Rattle.lp_macbeth.proofs.LoopLemmas.{copies_done}
use Rattle.lp_macbeth.proofs.translation.zeros.Goals as goal

pub loop-row-preserved : goal.loop-row-preserved
loop-row-preserved c =
    let none : ℕ = 0 in
    push_next c.loop-row.weights.items (replicate c.args.count none) (replicate (c.args.count - c.loop-row._row) none)
    (replicate (c.args.count - (c.loop-row._row + 1)) none) c.push.new.self.items none c.loop-row.invariant
    (replicate-next c.loop-row._row c.args.count none c.loop-row-test.true) c.in_ok-push.ensures.items

pub returns : goal.returns
returns c =
    let none : ℕ = 0 in
    copies_done c.loop-row._row c.args.count none c.loop-row.weights.items (replicate c.args.count none) c.loop-row-test.false c.loop-row.invariant
