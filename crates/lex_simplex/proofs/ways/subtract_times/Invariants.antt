use Rattle.lex_simplex.proofs.CellLists.Less.{IsLessSoFar}
use Rattle.lex_simplex.proofs.ways.subtract_times.Given as goal

abbrev pub invariant-loop-k : goal.invariant-loop-k
invariant-loop-k l = IsLessSoFar l.factor l.entries l.k l.fn.row l.row
