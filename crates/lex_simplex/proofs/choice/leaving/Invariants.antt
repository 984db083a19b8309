use Rattle.std.proofs.Common.{ℕ, ◌<◌, pos, ◌≤ℤ◌}
use Rattle.lex_simplex.specs.Tableau.{row_of}
use Rattle.lex_simplex.proofs.choice.leaving.Given as goal

abbrev pub invariant-loop-row : goal.invariant-loop-row
invariant-loop-row l = (k : ℕ) → k < l.row → pos 0 ≤ℤ (row_of l.cells k).constant
