use Rattle.std.proofs.Common.{pos, ◌*ℤ◌, ◌∙◌, ap}
use Rattle.std.specs.Prelude.{int_div}
use Rattle.integers.specs.Divisibility.{gcd_of}
use Rattle.lp_macbeth.specs.ClosedWeighting.{checked_whole, checked_multiple}
use Rattle.lp_macbeth.proofs.LoopLemmas.{rest_item}
use Rattle.lp_macbeth.proofs.CostLoopLemmas.{multiple_next}
use Rattle.lp_macbeth.proofs.weighting.multiple.Goals as goal

pub loop-excess-preserved : goal.loop-excess-preserved
loop-excess-preserved c =
    let es = c.args.excesses.now in
    let e = c.excess-item.result in
    let l = c.loop-excess.multiple in
    multiple_next l c.in_ok-multiple.multiple es c.loop-excess.excess-index e (checked_multiple (pos 1) es)
    (rest_item es c.loop-excess.excess-index e c.loop-excess-test.true c.excess-item.is)
    (c.in_ok-multiple.ensures ∙ ap (λ d. checked_whole (int_div l (gcd_of l d) *ℤ d)) c.denominator.ensures.value) c.loop-excess.invariant
