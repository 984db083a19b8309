use Rattle.std.proofs.Common.{refl, arith}
use Rattle.swing_weights.proofs.ScoreLemmas.{score_step}
use Rattle.swing_weights.proofs.scores.added.Goals as goal

pub loop-i-init : goal.loop-i-init
loop-i-init c = rw c.whole-sum.ensures refl

pub loop-i-preserved : goal.loop-i-preserved
loop-i-preserved c =
    let step = score_step c.loop-i.sum c.index-weights-i.result c.index-values-i.result c.args.weights.now c.args.values.now c.loop-i.i c.loop-i-test.true (omega arith) c.index-weights-i.is c.index-values-i.is in
    let went = rw (← c.in_ok-mul.ensures.is, ← c.in_ok-sum.ensures.is) at step in
    rw (← went) c.loop-i.invariant
