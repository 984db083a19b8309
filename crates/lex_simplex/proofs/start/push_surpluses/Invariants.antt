use Rattle.std.proofs.Common.{◌≡◌, ◌++◌, drop, map}
use Rattle.frac128.specs.declared.problem.Row.{Row}
use Rattle.lex_simplex.specs.Cells.{cells_of, joined_rows}
use Rattle.lex_simplex.specs.Tableau.{surplus_row}
use Rattle.lex_simplex.proofs.start.push_surpluses.Given as goal

abbrev pub invariant-loop-row : goal.invariant-loop-row
invariant-loop-row l = l.cells.items ++ joined_rows (map (λ (row : Row). cells_of (surplus_row row)) (drop l.row-index l.rows))
    ≡ l.fn.cells.items ++ joined_rows (map (λ (row : Row). cells_of (surplus_row row)) l.rows)
