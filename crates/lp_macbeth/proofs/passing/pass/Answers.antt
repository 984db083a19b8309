use Rattle.std.proofs.Common.{◌≡◌, ◌-◌, ◌∙◌, ap, sym, rules}
use Rattle.lp_macbeth.specs.Passing.{left_after, rests_after, passed}
use Rattle.lp_macbeth.proofs.PassLemmas.{passed-next, passed-none}
use Rattle.lp_macbeth.proofs.passing.pass.Goals as goal

pub loop-above-preserved : goal.loop-above-preserved
loop-above-preserved c =
    let own = c.args.category - 1 - c.loop-above.above in
    passed-next c.args.category c.loop-above.above (c.loop-above.left, c.loop-above.rests) (c.in_ok-left.field-0-0, c.in_ok-left.field-0-1)
    (passed c.args.category (c.args.amount, c.args.weights.now)) c.loop-above-test.true
    (c.in_ok-left.ensures ∙ ap (λ xs. (left_after own c.loop-above.left xs, rests_after own c.loop-above.left xs)) c.as_slice.ensures) c.loop-above.invariant

pub returns-then-eq : goal.returns-then-eq
returns-then-eq c =
    let here = c.loop-above in
    let none : here.left ≡ 0 = search rules in
    sym (passed-none (c.args.category - here.above) here.left here.rests none) ∙ here.invariant
