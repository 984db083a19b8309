use Rattle.std.proofs.Common.{◌-◌, ◌+◌, ◌++◌, replicate, to_z, of_z}
use Rattle.std.specs.Int.{w128}
use Rattle.integers.proofs.Loops.{push_next, replicate-next}
use Rattle.std.proofs.Common.{◌≡◌, subst}
use Rattle.std.proofs.lemmas.Int.{to_z-of_z}
use Rattle.lp_macbeth.proofs.LoopLemmas.{copies_done}
use Rattle.lp_macbeth.proofs.gaps.push_copies.Goals as goal

pub loop-place-preserved : goal.loop-place-preserved
loop-place-preserved c =
    push_next c.loop-place.coefs.items (c.args.coefs.now.items ++ replicate c.args.count (to_z w128 (of_z w128 c.args.value)))
    (replicate (c.args.count - c.loop-place._place) (to_z w128 (of_z w128 c.args.value)))
    (replicate (c.args.count - (c.loop-place._place + 1)) (to_z w128 (of_z w128 c.args.value))) c.push.new.self.items (to_z w128 (of_z w128 c.args.value))
    c.loop-place.invariant (replicate-next c.loop-place._place c.args.count (to_z w128 (of_z w128 c.args.value)) c.loop-place-test.true)
    c.in_ok-push.ensures.items

pub returns : goal.returns
returns c =
    let value = to_z w128 (of_z w128 c.args.value) in
    subst (λ z. c.loop-place.coefs.items ≡ c.args.coefs.now.items ++ replicate c.args.count z) (to_z-of_z w128 c.args.value c.ranges.value)
    (copies_done c.loop-place._place c.args.count value c.loop-place.coefs.items (c.args.coefs.now.items ++ replicate c.args.count value)
    c.loop-place-test.false c.loop-place.invariant)
