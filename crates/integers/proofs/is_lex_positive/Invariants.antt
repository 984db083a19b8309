-- The numbers passed were 0: the rest decides.
use Rattle.std.proofs.Common.{◌↔◌, drop}
use Rattle.integers.specs.Lexicographic.{IsLexPositive}
use Rattle.integers.proofs.is_lex_positive.Given as goal

abbrev pub invariant-loop-x : goal.invariant-loop-x
invariant-loop-x l = IsLexPositive l.xs ↔ IsLexPositive (drop l.x-index l.xs)
