use Rattle.lex_simplex.specs.State.{IsWorkable}
use Rattle.lex_simplex.proofs.Runs.Loop.{AreTurnsMade}
use Rattle.lex_simplex.proofs.Runs.ToGo.{turns_to_go}
use Rattle.lex_simplex.proofs.run.run.Given as goal

abbrev pub invariant-loop-end : goal.invariant-loop-end
invariant-loop-end l = record {
  workable : IsWorkable l.cells;
  made : AreTurnsMade l.fn.cells l.fn.pivots l.cells l.pivots;
}

abbrev pub decreases-loop-end : goal.decreases-loop-end
decreases-loop-end l = turns_to_go l.cells
