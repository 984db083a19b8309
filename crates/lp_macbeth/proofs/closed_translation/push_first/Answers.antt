use Rattle.std.proofs.Common.{◌++◌}
use Rattle.lp_macbeth.specs.Passing.{first_weights}
use Rattle.lp_macbeth.proofs.ClosedCarryLemmas.{first_next, first_done}
use Rattle.lp_macbeth.proofs.closed_translation.push_first.Goals as goal

pub loop-place-preserved : goal.loop-place-preserved
loop-place-preserved c =
    first_next c.args.count c.loop-place._place c.take-weight.result c.loop-place.supply c.take-weight.new.self c.loop-place.own.items
    (c.args.own.now.items ++ first_weights c.args.count c.args.supply.now) c.push.new.self.items c.loop-place-test.true c.take-weight.ensures.weight
    c.take-weight.ensures.rest c.loop-place.invariant c.in_ok-push.ensures.items

pub returns : goal.returns
returns c =
    first_done c.args.count c.loop-place._place c.loop-place.supply c.loop-place.own.items
    (c.args.own.now.items ++ first_weights c.args.count c.args.supply.now) c.loop-place-test.false c.loop-place.invariant
