use Rattle.std.proofs.Common.{◌≡◌, ◌++◌, ◌-◌, ℕ, map}
use Rattle.integers.specs.Counting.{numbers_from}
use Rattle.lex_simplex.specs.Cells.{cells_of, joined_rows}
use Rattle.lex_simplex.specs.Tableau.{variable_row}
use Rattle.lex_simplex.proofs.start.push_variables.Given as goal

abbrev pub invariant-loop-variable : goal.invariant-loop-variable
invariant-loop-variable l = l.cells.items ++ joined_rows (map (λ (j : ℕ). cells_of (variable_row l.vars j)) (numbers_from l.variable (l.vars - l.variable)))
    ≡ l.fn.cells.items ++ joined_rows (map (λ (j : ℕ). cells_of (variable_row l.vars j)) (numbers_from 0 l.vars))
