use Rattle.std.proofs.Common.{◌≡◌}
use Rattle.judgement_matrix.specs.Matrix.{pairs}
use Rattle.judgement_matrix.specs.Rows.{cross_rows_under}
use Rattle.judgement_matrix.proofs.Walks.{AllPairsOf}
use Rattle.value_scale.specs.Narrowing.{with_rows}
use Rattle.value_scale.proofs.slacks.with_cross_rows_under.Given as goal

abbrev pub invariant-loop-other : goal.invariant-loop-other
invariant-loop-other l = record {
  so_far : with_rows l.matrix l.values l.element (cross_rows_under l.matrix l.pair l.other-iterator) l.left
      ≡ with_rows l.matrix l.values l.element (cross_rows_under l.matrix l.pair (pairs l.matrix.size)) l.initial.left;
  pairs : AllPairsOf l.matrix.size l.other-iterator;
}
