use Rattle.std.proofs.Common.{◌≡◌, length}
use Rattle.lex_simplex.proofs.pivot_row.PivotRow.make.Given as goal

abbrev pub invariant-loop-place : goal.invariant-loop-place
invariant-loop-place l = length l.entries.items ≡ l._place
