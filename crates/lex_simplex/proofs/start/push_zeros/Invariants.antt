use Rattle.std.proofs.Common.{◌≡◌, ◌++◌, ◌-◌, pos, replicate}
use Rattle.lex_simplex.proofs.start.push_zeros.Given as goal

abbrev pub invariant-loop-place : goal.invariant-loop-place
invariant-loop-place l = l.cells.items ++ replicate (l.fn.count - l._place) (pos 0) ≡ l.fn.cells.items ++ replicate l.fn.count (pos 0)
