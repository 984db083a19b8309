use Rattle.std.proofs.Common.{◌≡◌, ◌++◌, map, take, drop, neg_ℤ}
use Rattle.lex_simplex.proofs.reading.negate.Given as goal

abbrev pub invariant-loop-i : goal.invariant-loop-i
invariant-loop-i l = l.numbers ≡ map neg_ℤ (take l.i l.fn.numbers) ++ drop l.i l.fn.numbers
