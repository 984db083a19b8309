use Rattle.lp_macbeth.proofs.ClosedCarryLemmas.{skip_next, skip_done}
use Rattle.lp_macbeth.proofs.closed_translation.skip.Goals as goal

pub loop-place-preserved : goal.loop-place-preserved
loop-place-preserved c =
    skip_next c.args.count c.loop-place._place c.loop-place.supply c.take.new.self _ c.loop-place-test.true c.take.ensures.rest c.loop-place.invariant

pub returns : goal.returns
returns c = skip_done c.args.count c.loop-place._place c.loop-place.supply _ c.loop-place-test.false c.loop-place.invariant
