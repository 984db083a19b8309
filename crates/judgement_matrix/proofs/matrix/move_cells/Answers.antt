use Rattle.std.proofs.Common.{sym, arith}
use Rattle.judgement_matrix.proofs.LawfulLemmas.{moved_cells-none, step_at_place, set_at_place, place_in_cells}
use Rattle.judgement_matrix.proofs.matrix.move_cells.Goals as goal

pub loop-place-init : goal.loop-place-init
loop-place-init c = sym (moved_cells-none c.args.cells.now.items)

pub index-requires : goal.index-requires
index-requires c =
    let within = place_in_cells c.args.cells.now.items c.loop-place.cells.items c.args.steps.now c.loop-place.place c.requires.cells c.requires.lawful
    c.loop-place-test.true c.loop-place.invariant in
    omega arith

pub moved_cell-requires : goal.moved_cell-requires
moved_cell-requires c =
    step_at_place c.args.cells.now.items c.loop-place.cells.items c.args.steps.now c.loop-place.place c.requires.cells c.requires.lawful
    c.loop-place-test.true c.loop-place.invariant c.index.result.now c.index.ensures

pub index_mut-requires : goal.index_mut-requires
index_mut-requires c =
    let within = place_in_cells c.args.cells.now.items c.loop-place.cells.items c.args.steps.now c.loop-place.place c.requires.cells c.requires.lawful
    c.loop-place-test.true c.loop-place.invariant in
    omega arith

pub loop-place-preserved : goal.loop-place-preserved
loop-place-preserved c =
    set_at_place c.args.cells.now.items c.loop-place.cells.items c.args.steps.now c.loop-place.place c.requires.cells c.requires.lawful
    c.loop-place-test.true c.loop-place.invariant c.index.result.now c.index.ensures c.moved_cell.result c.moved_cell.ensures
