use Rattle.std.proofs.Common.{◌-◌, ◌+◌, ◌++◌, pos, replicate}
use Rattle.integers.proofs.Loops.{push_next, replicate-next}
use Rattle.lex_simplex.proofs.start.push_zeros.Goals as goal

pub loop-place-preserved : goal.loop-place-preserved
loop-place-preserved c = push_next c.loop-place.cells.items (c.args.cells.now.items ++ replicate c.args.count (pos 0))
    (replicate (c.args.count - c.loop-place._place) (pos 0)) (replicate (c.args.count - (c.loop-place._place + 1)) (pos 0)) c.push.new.self.items
    (pos 0) c.loop-place.invariant (replicate-next c.loop-place._place c.args.count (pos 0) c.loop-place-test.true) c.in_ok-push.ensures.items
