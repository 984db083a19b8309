use Rattle.lex_simplex.proofs.Choices.BestColumn.{IsBest}
use Rattle.lex_simplex.proofs.choice.entering.Given as goal

abbrev pub invariant-loop-column : goal.invariant-loop-column
invariant-loop-column l = IsBest l.cells l.row l.column l.best
