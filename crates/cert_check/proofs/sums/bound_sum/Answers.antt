use Rattle.std.specs.Prelude.{All, pos, ◌+◌}
use Rattle.std.proofs.Common.{subst, sym}
use Rattle.integers.specs.Vector.{int_sum}
use Rattle.frac128.specs.Range.{IsInRange}
use Rattle.cert_check.specs.Entries.{bound, products_on, added_in_turn}
use Rattle.cert_check.proofs.SumLemmas.{IsSumBefore, IsNextProduct, IsSumBefore-next, IsSumBefore-wide, OkIff-refused}
use Rattle.cert_check.proofs.sums.bound_sum.Goals as goal

pub returns-in_err-sum : goal.returns-in_err-sum
returns-in_err-sum c =
    let next : IsNextProduct bound c.args.problem.now.rows c.args.on.now c.loop-i.i c.multiplier_at.result c.bound_of-number.result
    = record { entry = c.loop-i-test.true; multiplier = c.multiplier_at.ensures; number_is = c.bound_of-number.ensures } in
    OkIff-refused c.from_residual.result (All IsInRange (added_in_turn (pos 0) (products_on bound c.args.problem.now.rows c.args.on.now)))
    (int_sum (products_on bound c.args.problem.now.rows c.args.on.now)) c.from_residual.ensures.0
    (IsSumBefore-wide bound c.args.problem.now.rows c.args.on.now c.loop-i.i
    c.loop-i.sum c.multiplier_at.result c.bound_of-number.result next c.in_err-sum.ensures c.loop-i.invariant)

pub loop-i-preserved : goal.loop-i-preserved
loop-i-preserved c =
    let next : IsNextProduct bound c.args.problem.now.rows c.args.on.now c.loop-i.i c.multiplier_at.result c.bound_of-number.result
    = record { entry = c.loop-i-test.true; multiplier = c.multiplier_at.ensures; number_is = c.bound_of-number.ensures } in
    subst (IsSumBefore bound c.args.problem.now.rows c.args.on.now (c.loop-i.i + 1)) (sym c.in_ok-sum.ensures.1)
    (IsSumBefore-next bound c.args.problem.now.rows c.args.on.now c.loop-i.i
    c.loop-i.sum c.multiplier_at.result c.bound_of-number.result next c.in_ok-sum.ensures.0 c.loop-i.invariant)
