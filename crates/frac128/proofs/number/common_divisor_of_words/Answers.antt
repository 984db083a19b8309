use Rattle.std.proofs.Common.{rules}
use Rattle.std.proofs.lemmas.Nat.Gcd.{IsGcd-from_mod, IsGcd-from_zero}
use Rattle.frac128.proofs.number.common_divisor_of_words.Goals as goal

-- a step of the loop
pub loop-y-preserved : goal.loop-y-preserved
loop-y-preserved c = λ g h. c.loop-y.invariant g (IsGcd-from_mod c.loop-y.x c.loop-y.y g h)

-- at the end the second number is 0, and the first the divisor
pub returns : goal.returns
returns c = c.loop-y.invariant c.loop-y.x (IsGcd-from_zero c.loop-y.x c.loop-y.y (search rules))
