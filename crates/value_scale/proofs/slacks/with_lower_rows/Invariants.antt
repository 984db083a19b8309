use Rattle.std.proofs.Common.{◌≡◌}
use Rattle.judgement_matrix.specs.Rows.{lower_rows, lower_rows_of}
use Rattle.judgement_matrix.proofs.Walks.{AllPairsOf}
use Rattle.value_scale.specs.Narrowing.{with_rows}
use Rattle.value_scale.proofs.slacks.with_lower_rows.Given as goal

abbrev pub invariant-loop-p : goal.invariant-loop-p
invariant-loop-p l = record {
  so_far : with_rows l.matrix l.values l.element (lower_rows_of l.matrix l.p-iterator) l.left
      ≡ with_rows l.matrix l.values l.element (lower_rows l.matrix) l.initial.left;
  pairs : AllPairsOf l.matrix.size l.p-iterator;
}
