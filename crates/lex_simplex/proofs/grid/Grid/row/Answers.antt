use Rattle.std.proofs.Common.{◌∙◌}
use Rattle.lex_simplex.proofs.CellLists.Grids.{IsGrid-within, IsGrid-row}
use Rattle.lex_simplex.proofs.grid.Grid.row.Goals as goal

pub part-requires : goal.part-requires
part-requires c = IsGrid-within c.self.inside.width c.self.inside.count c.self.inside.cells.items c.as_slice.result.now c.args.self.now c.args.place record
    { is = c.self.view_is; long = c.self.invariant } c.as_slice.ensures.value c.requires

pub returns : goal.returns
returns c = c.part.ensures ∙ IsGrid-row c.self.inside.width c.self.inside.count c.self.inside.cells.items c.as_slice.result.now c.args.self.now c.args.place
    record { is = c.self.view_is; long = c.self.invariant } c.as_slice.ensures.value c.requires
