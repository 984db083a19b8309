use Rattle.std.proofs.Common.{◌≡◌, ◌+◌, ◌++◌, map}
use Rattle.judgement_matrix.specs.Change.{grown, grown_cell}
use Rattle.judgement_matrix.proofs.Walks.{AllPairsOf}
use Rattle.judgement_matrix.proofs.matrix.Matrix.grown_cells.Given as goal

abbrev pub invariant-loop-p : goal.invariant-loop-p
invariant-loop-p l = record {
  so_far : l.cells.items ++ map (grown_cell l.self) l.p-iterator ≡ (grown l.self).cells;
  pairs : AllPairsOf (l.self.size + 1) l.p-iterator;
}
