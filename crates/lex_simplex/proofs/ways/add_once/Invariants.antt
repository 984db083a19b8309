use Rattle.std.proofs.Common.{negsuc}
use Rattle.lex_simplex.proofs.CellLists.Less.{IsLessSoFar}
use Rattle.lex_simplex.proofs.ways.add_once.Given as goal

abbrev pub invariant-loop-k : goal.invariant-loop-k
invariant-loop-k l = IsLessSoFar (negsuc 0) l.entries l.k l.fn.row l.row
