use Rattle.std.proofs.Common.{pos}
use Rattle.lex_simplex.proofs.CellLists.Less.{IsLessSoFar}
use Rattle.lex_simplex.proofs.ways.subtract_once.Given as goal

abbrev pub invariant-loop-k : goal.invariant-loop-k
invariant-loop-k l = IsLessSoFar (pos 1) l.entries l.k l.fn.row l.row
