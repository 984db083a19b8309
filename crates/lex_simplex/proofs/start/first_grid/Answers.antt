use Rattle.std.proofs.Common.{◌≡◌, ◌∙◌, length, rules}
use Rattle.lex_simplex.proofs.CellLists.First.{filled, filled-counts, filled-rows}
use Rattle.lex_simplex.proofs.start.first_grid.Goals as goal

pub make-requires : goal.make-requires
make-requires c =
    let is = filled c.args.problem.now c.vars-vars.result c.cost.result.now c.rows.result.now c.new-cells.result.items c.push_row.new.cells.items
    c.push_variables.new.cells.items c.push_surpluses.new.cells.items c.vars-vars.ensures.value c.cost.ensures.value c.rows.ensures.value
    c.new-cells.ensures.items c.in_ok-push_row.ensures c.in_ok-push_variables.ensures c.in_ok-push_surpluses.ensures in
    let total : c.len-total.result ≡ length c.push_surpluses.new.cells.items = search rules in
    filled-counts c.args.problem.now c.vars-vars.ensures.problem c.vars-vars.result c.len-total.result c.push_surpluses.new.cells.items
    c.vars-vars.ensures.value total is

pub returns : goal.returns
returns c =
    let is = filled c.args.problem.now c.vars-vars.result c.cost.result.now c.rows.result.now c.new-cells.result.items c.push_row.new.cells.items
    c.push_variables.new.cells.items c.push_surpluses.new.cells.items c.vars-vars.ensures.value c.cost.ensures.value c.rows.ensures.value
    c.new-cells.ensures.items c.in_ok-push_row.ensures c.in_ok-push_variables.ensures c.in_ok-push_surpluses.ensures in
    let total : c.len-total.result ≡ length c.push_surpluses.new.cells.items = search rules in
    c.make.ensures ∙ filled-rows c.args.problem.now c.vars-vars.ensures.problem c.vars-vars.result c.len-total.result c.push_surpluses.new.cells.items
    c.vars-vars.ensures.value total is
