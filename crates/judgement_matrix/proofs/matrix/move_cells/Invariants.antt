use Rattle.std.proofs.Common.{◌≡◌, take}
use Rattle.judgement_matrix.specs.Repair.{moved_cells}
use Rattle.judgement_matrix.proofs.matrix.move_cells.Given as goal

abbrev pub invariant-loop-place : goal.invariant-loop-place
invariant-loop-place l = l.cells.items ≡ moved_cells l.fn.cells.items (take l.place l.steps)
