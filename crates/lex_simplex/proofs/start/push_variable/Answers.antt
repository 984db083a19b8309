use Rattle.std.proofs.lemmas.Result.{on_ok_weaker}
use Rattle.lex_simplex.proofs.CellLists.First.{variable_cells}
use Rattle.lex_simplex.proofs.start.push_variable.Goals as goal

pub returns : goal.returns
returns c = on_ok_weaker c.push_zeros-2.result (λ is. variable_cells c.args.vars c.args.variable c.args.cells.now.items c.push.new.self.items
    c.push-2.new.self.items c.push_zeros.new.cells.items c.push-3.new.self.items c.push_zeros-2.new.cells.items c.requires c.in_ok-push.ensures.items
    c.in_ok-push-2.ensures.items c.in_ok-push_zeros.ensures c.in_ok-push-3.ensures.items is) c.push_zeros-2.ensures
