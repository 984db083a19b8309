use Rattle.lex_simplex.proofs.CellLists.Pivots.{HaveRoom-kept, prepared_cells-room}
use Rattle.lex_simplex.proofs.CellLists.Prepared.{IsPrepared-can, IsPrepared-done, IsPrepared-from, IsPrepared-workable}
use Rattle.lex_simplex.proofs.pivot.pivot_cells.Goals as goal

pub pivot_rows-requires : goal.pivot_rows-requires
pivot_rows-requires c =
    IsPrepared-can c.args.columns.now c.args.grid.now c.args.row c.args.column c.index-cells-column.result c.prepare.new.self
    (IsPrepared-from c.args.columns.now c.args.grid.now c.args.row c.args.column c.quantity-cells.result.now c.index-cells-column.result c.prepare.new.self
    c.requires.room.cells c.requires.tableau c.requires.row c.requires.column c.quantity-cells.ensures c.index-cells-column.is c.prepare.ensures)

pub returns-clause-done : goal.returns-clause-done
returns-clause-done c =
    IsPrepared-done c.pivot_rows.result c.args.columns.now c.args.grid.now c.pivot_rows.new.grid c.args.row c.args.column c.index-cells-column.result
    c.prepare.new.self
    (IsPrepared-from c.args.columns.now c.args.grid.now c.args.row c.args.column c.quantity-cells.result.now c.index-cells-column.result c.prepare.new.self
    c.requires.room.cells c.requires.tableau c.requires.row c.requires.column c.quantity-cells.ensures c.index-cells-column.is c.prepare.ensures)
    c.pivot_rows.ensures.done

pub returns-clause-workable : goal.returns-clause-workable
returns-clause-workable c =
    IsPrepared-workable c.pivot_rows.result c.args.columns.now c.args.grid.now c.pivot_rows.new.grid c.args.row c.args.column c.index-cells-column.result
    c.prepare.new.self
    (IsPrepared-from c.args.columns.now c.args.grid.now c.args.row c.args.column c.quantity-cells.result.now c.index-cells-column.result c.prepare.new.self
    c.requires.room.cells c.requires.tableau c.requires.row c.requires.column c.quantity-cells.ensures c.index-cells-column.is c.prepare.ensures)
    c.pivot_rows.ensures.done

pub returns-clause-room : goal.returns-clause-room
returns-clause-room c =
    HaveRoom-kept c.args.columns.now c.args.grid.now c.pivot_rows.new.grid c.args.room.now c.prepare.new.self c.args.column c.args.row c.requires.room
    c.pivot_rows.ensures.same_shape
    (prepared_cells-room c.args.columns.now c.args.grid.now c.args.row c.args.column c.quantity-cells.result.now c.args.room.now c.prepare.new.self
    c.requires.room c.requires.row c.requires.column.below c.quantity-cells.ensures c.prepare.ensures)
