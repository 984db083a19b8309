use Rattle.std.proofs.Common.{◌≡◌, pos, rules, unsigned_abs, ap}
use Rattle.std.proofs.lemmas.Nat.Gcd.{IsGcd-swap}
use Rattle.integers.proofs.DivisorLists.{HasSoFar-all, HasSoFar-next, HasSoFar-one}
use Rattle.lex_simplex.proofs.numbers.divisor_of.Goals as goal

pub returns-then-eq-clause-divisor : goal.returns-then-eq-clause-divisor
returns-then-eq-clause-divisor c =
    let one : c.loop-number.divisor ≡ pos 1 = search rules in
    HasSoFar-one c.args.numbers.now c.loop-number.number-index (unsigned_abs c.loop-number.divisor) (ap unsigned_abs one) c.loop-number.invariant.1

pub loop-number-preserved : goal.loop-number-preserved
loop-number-preserved c = (
  c.common_divisor-divisor.ensures.sign,
  HasSoFar-next c.args.numbers.now c.loop-number.number-index c.number-item.result c.loop-number.divisor c.common_divisor-divisor.result
      c.loop-number-test.true c.number-item.is (IsGcd-swap (unsigned_abs c.number-item.result) (unsigned_abs c.loop-number.divisor)
      (unsigned_abs c.common_divisor-divisor.result) c.common_divisor-divisor.ensures.divisor) c.loop-number.invariant.1,
)

pub returns-clause-divisor : goal.returns-clause-divisor
returns-clause-divisor c = HasSoFar-all c.args.numbers.now c.loop-number.number-index
    (unsigned_abs c.loop-number.divisor) c.loop-number-test.false c.loop-number.invariant.1
