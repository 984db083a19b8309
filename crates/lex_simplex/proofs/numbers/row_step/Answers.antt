use Rattle.std.proofs.Common.{◌<◌, length, arith, rules}
use Rattle.integers.proofs.Loops.{step_front-next}
use Rattle.lex_simplex.proofs.CellLists.FitLoops.{StepFits-next}
use Rattle.lex_simplex.proofs.numbers.row_step.Goals as goal

pub returns-in_err-row-clause-done : goal.returns-in_err-row-clause-done
returns-in_err-row-clause-done c =
    let long : c.loop-i.i < length c.loop-i.row = omega (arith, c.loop-i-test.true, c.loop-i.auto.row) in
    let other : c.loop-i.i < length c.args.other.now = omega (arith, c.loop-i-test.true, c.requires) in
    let next = StepFits-next c.args.p c.args.q c.args.row.now c.args.other.now c.loop-i.row c.loop-i.i c.index-row-i.result c.index-other-i.result long
    c.loop-i-test.true other c.loop-i.invariant.so_far c.index-row-i.is c.index-other-i.is in
    search rules

pub loop-i-preserved : goal.loop-i-preserved
loop-i-preserved c =
    let long : c.loop-i.i < length c.loop-i.row = omega (arith, c.loop-i-test.true, c.loop-i.auto.row) in
    let other : c.loop-i.i < length c.args.other.now = omega (arith, c.loop-i-test.true, c.requires) in
    let next = StepFits-next c.args.p c.args.q c.args.row.now c.args.other.now c.loop-i.row c.loop-i.i c.index-row-i.result c.index-other-i.result long
    c.loop-i-test.true other c.loop-i.invariant.so_far c.index-row-i.is c.index-other-i.is in
    let fits = c.in_ok-row.ensures in
    record {
      so_far = step_front-next c.args.p c.args.q c.args.row.now c.args.other.now c.loop-i.row c.loop-i.i c.index-row-i.result c.index-other-i.result
          c.in_ok-row.field-0 long c.loop-i-test.true other c.loop-i.invariant.so_far c.index-row-i.is c.index-other-i.is fits.1;
      fits = (λ h. (next.0 (c.loop-i.invariant.fits.0 h)).1, λ h. c.loop-i.invariant.fits.1 (next.1 (fits.0, h)));
    }
