use Rattle.std.proofs.Common.{◌≡◌}
use Rattle.judgement_matrix.specs.Matrix.{pairs}
use Rattle.judgement_matrix.specs.Rows.{cross_rows, cross_rows_of}
use Rattle.judgement_matrix.proofs.Walks.{AllPairsOf}
use Rattle.value_scale.specs.Narrowing.{with_rows}
use Rattle.value_scale.proofs.slacks.with_cross_rows.Given as goal

abbrev pub invariant-loop-pair : goal.invariant-loop-pair
invariant-loop-pair l = record {
  so_far : with_rows l.matrix l.values l.element (cross_rows_of l.matrix l.pair-iterator (pairs l.matrix.size)) l.left
      ≡ with_rows l.matrix l.values l.element (cross_rows l.matrix) l.initial.left;
  pairs : AllPairsOf l.matrix.size l.pair-iterator;
}
