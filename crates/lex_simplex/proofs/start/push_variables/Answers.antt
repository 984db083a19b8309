use Rattle.std.proofs.Common.{ℕ, ◌-◌, ◌+◌, ◌++◌, map}
use Rattle.integers.specs.Counting.{numbers_from}
use Rattle.integers.proofs.Loops.{join_next}
use Rattle.lex_simplex.specs.Cells.{cells_of, joined_rows}
use Rattle.lex_simplex.specs.Tableau.{variable_row}
use Rattle.lex_simplex.proofs.CellLists.First.{variable_rows-next}
use Rattle.lex_simplex.proofs.start.push_variables.Goals as goal

pub loop-variable-preserved : goal.loop-variable-preserved
loop-variable-preserved c =
    let i : ℕ = c.loop-variable.variable in
    join_next c.loop-variable.cells.items (c.args.cells.now.items ++ joined_rows
    (map (λ (j : ℕ). cells_of (variable_row c.args.vars j)) (numbers_from 0 c.args.vars)))
    (joined_rows (map (λ (j : ℕ). cells_of (variable_row c.args.vars j)) (numbers_from i (c.args.vars - i))))
    (joined_rows (map (λ (j : ℕ). cells_of (variable_row c.args.vars j)) (numbers_from (i + 1) (c.args.vars - (i + 1)))))
    c.push_variable.new.cells.items (cells_of (variable_row c.args.vars i)) c.loop-variable.invariant
    (variable_rows-next c.args.vars i c.loop-variable-test.true) c.in_ok-push_variable.ensures
