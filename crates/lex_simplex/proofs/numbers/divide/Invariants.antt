use Rattle.std.proofs.Common.{◌≡◌, ◌++◌, take, drop}
use Rattle.integers.specs.Divisibility.{quotients}
use Rattle.lex_simplex.proofs.numbers.divide.Given as goal

abbrev pub invariant-loop-i : goal.invariant-loop-i
invariant-loop-i l = l.numbers ≡ quotients (take l.i l.fn.numbers) l.fn.divisor ++ drop l.i l.fn.numbers
