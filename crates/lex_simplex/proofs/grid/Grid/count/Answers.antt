use Rattle.lex_simplex.proofs.CellLists.Grids.{IsGrid-count}
use Rattle.lex_simplex.proofs.grid.Grid.count.Goals as goal

pub returns : goal.returns
returns c = IsGrid-count c.self.inside.width c.self.inside.count c.self.inside.cells.items c.args.self.now record {
  is = c.self.view_is;
  long =
      c.self.invariant;
}
