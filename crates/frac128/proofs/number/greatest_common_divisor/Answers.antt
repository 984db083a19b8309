use Rattle.std.specs.Int.{IsGcd}
use Rattle.std.proofs.Common.{rules, sym, subst, subst₂}
use Rattle.std.proofs.lemmas.Nat.Gcd.{IsGcd-from_mod, IsGcd-from_zero}
use Rattle.frac128.proofs.number.greatest_common_divisor.Goals as goal

-- a step of the loop
pub loop-y-preserved : goal.loop-y-preserved
loop-y-preserved c = λ g h. c.loop-y.invariant g (IsGcd-from_mod c.loop-y.x c.loop-y.y g h)

-- at the end the second number is 0, and the first the divisor
pub returns : goal.returns
returns c = c.loop-y.invariant c.loop-y.x (IsGcd-from_zero c.loop-y.x c.loop-y.y (search rules))

-- words have the divisor of the numbers that they are
pub returns-in-Ok-Ok : goal.returns-in-Ok-Ok
returns-in-Ok-Ok c =
    let left = c.in-Ok-Ok.ensures in
    let right = c.in-Ok-Ok.ensures' in
    let words = subst₂ (λ a b. IsGcd a b c.common_divisor_of_words.result) left.1 right.1 c.common_divisor_of_words.ensures in
    c.loop-y.invariant c.from.result (subst (IsGcd c.loop-y.x c.loop-y.y) (sym c.from.ensures) words)
