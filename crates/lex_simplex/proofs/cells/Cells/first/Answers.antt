use Rattle.std.proofs.Common.{◌≡◌, ◌∙◌, ap, length, rules}
use Rattle.integers.specs.Counting.{numbers_from}
use Rattle.lex_simplex.proofs.CellLists.First.{first_room, first_tableau}
use Rattle.lex_simplex.proofs.cells.Cells.first.Goals as goal

pub invariant_of-result : goal.invariant_of-result
invariant_of-result c =
    let few : c.len.result ≡ length c.in_ok-columns.columns.items = search rules in
    first_room c.args.problem.now c.vars.ensures.problem c.in_ok-columns.columns.items c.in_ok-grid.grid c.in_ok-room.room c.len.result
    (c.in_ok-columns.ensures ∙ ap (numbers_from 0) c.vars.ensures.value) c.in_ok-grid.ensures few c.in_ok-room.ensures

pub returns : goal.returns
returns c =
    first_tableau c.args.problem.now c.in_ok-columns.columns.items c.in_ok-grid.grid (c.in_ok-columns.ensures
    ∙ ap (numbers_from 0) c.vars.ensures.value) c.in_ok-grid.ensures
