use Rattle.std.proofs.Common.{pos, unsigned_abs, ◌≤ℤ◌}
use Rattle.integers.proofs.DivisorLists.{HasSoFar}
use Rattle.lex_simplex.proofs.numbers.divisor_of.Given as goal

abbrev pub invariant-loop-number : goal.invariant-loop-number
invariant-loop-number l = (pos 0 ≤ℤ l.divisor) × HasSoFar l.numbers l.number-index (unsigned_abs l.divisor)
