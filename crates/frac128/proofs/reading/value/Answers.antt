use Rattle.frac128.proofs.DigitLemmas.{digit_bounds, value_more, value_front}
use Rattle.std.proofs.Common.{◌+◌, arith}
use Rattle.frac128.proofs.reading.value.Goals as goal

pub overflow_sub-byte : goal.overflow_sub-byte
overflow_sub-byte c = (digit_bounds c.args.digits.now c.loop-byte.byte-index c.requires c.loop-byte-test.true).0

pub returns-in_err-checked_mul : goal.returns-in_err-checked_mul
returns-in_err-checked_mul c =
    let ds = c.args.digits.now in
    let i = c.loop-byte.byte-index in
    rw c.from_residual.ensures (λ small. c.in_err-checked_mul.ensures
    (omega (arith, value_more ds i c.requires c.loop-byte-test.true, value_front ds (i + 1), c.loop-byte.invariant)))

pub returns-in_err-sum : goal.returns-in_err-sum
returns-in_err-sum c =
    let ds = c.args.digits.now in
    let i = c.loop-byte.byte-index in
    rw c.from_residual-in_err-sum.ensures (λ small. c.in_err-sum.ensures
    (omega (arith, value_more ds i c.requires c.loop-byte-test.true, value_front ds (i + 1), c.loop-byte.invariant, c.in_ok-checked_mul.ensures)))

pub loop-byte-preserved : goal.loop-byte-preserved
loop-byte-preserved c =
    let ds = c.args.digits.now in
    let i = c.loop-byte.byte-index in
    omega (arith, value_more ds i c.requires c.loop-byte-test.true, c.loop-byte.invariant, c.in_ok-checked_mul.ensures, c.in_ok-sum.ensures)
