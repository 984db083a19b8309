use Rattle.frac128.proofs.DecimalLemmas.{digit_more, ten_more, ten_small}
use Rattle.std.proofs.Common.{arith}
use Rattle.frac128.proofs.decimals.digits_behind.Goals as goal

pub overflow_mul-part : goal.overflow_mul-part
overflow_mul-part c = omega (arith, ten_small c.loop-place.place (omega arith))

pub overflow_add-part : goal.overflow_add-part
overflow_add-part c = omega (arith, ten_small c.loop-place.place (omega arith), c.next_digit-digit.ensures.digit)

pub loop-place-preserved : goal.loop-place-preserved
loop-place-preserved c =
    let s = c.next_digit-digit.ensures in
    let i = c.loop-place.invariant in (
      digit_more c.loop-place.part c.loop-place.left c.next_digit-digit.result.1 c.next_digit-digit.result.0 c.args.den c.args.rest
          c.loop-place.place i.0 s.split,
      s.below,
      omega (arith, ten_more c.loop-place.place, i.2, s.digit),
    )
