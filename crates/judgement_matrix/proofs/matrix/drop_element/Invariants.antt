use Rattle.std.proofs.Common.{◌≡◌, ◌-◌, ◌≤◌, length, ◌++◌, map, take, drop}
use Rattle.judgement_matrix.specs.Matrix.{pairs}
use Rattle.judgement_matrix.specs.Change.{left_cell}
use Rattle.judgement_matrix.proofs.Walks.{AllPairsOf}
use Rattle.judgement_matrix.proofs.matrix.drop_element.Given as goal

abbrev pub invariant-loop-x : goal.invariant-loop-x
invariant-loop-x l = record {
  so_far : l.cells.items ≡ map (left_cell (record { size = l.size; cells = l.fn.cells.items }) l.p) (take l.place (pairs (l.size - 1))) ++ drop l.place l.fn.cells.items;
  rest : l.x-iterator ≡ drop l.place (pairs (l.size - 1));
  within : l.place ≤ length (pairs (l.size - 1));
  pairs : AllPairsOf (l.size - 1) l.x-iterator;
}
