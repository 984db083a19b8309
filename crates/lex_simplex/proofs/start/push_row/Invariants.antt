use Rattle.std.proofs.Common.{◌≡◌, ◌++◌, ◌∷◌, pos, drop}
use Rattle.lex_simplex.proofs.start.push_row.Given as goal

abbrev pub invariant-loop-coef : goal.invariant-loop-coef
invariant-loop-coef l = l.cells.items ++ drop l.coef-index l.coefs ≡ l.fn.cells.items ++ (pos 1 ∷ l.fn.constant ∷ l.coefs)
