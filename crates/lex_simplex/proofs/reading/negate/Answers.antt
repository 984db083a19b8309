use Rattle.std.proofs.Common.{neg_ℤ}
use Rattle.integers.proofs.Loops.{map_front-next}
use Rattle.lex_simplex.proofs.reading.negate.Goals as goal

pub loop-i-preserved : goal.loop-i-preserved
loop-i-preserved c = map_front-next neg_ℤ c.args.numbers.now c.loop-i.numbers c.loop-i.i c.index-numbers-i.result c.negated.result c.loop-i-test.true
    c.loop-i.invariant c.index-numbers-i.is c.negated.ensures
