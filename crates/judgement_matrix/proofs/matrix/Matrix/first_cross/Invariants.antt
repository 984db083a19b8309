use Rattle.std.proofs.Common.{◌≡◌}
use Rattle.judgement_matrix.specs.Matrix.{pairs}
use Rattle.judgement_matrix.specs.Rows.{cross_rows, cross_rows_of}
use Rattle.judgement_matrix.specs.Walk.{row_fails, first_stop}
use Rattle.judgement_matrix.proofs.Walks.{AllPairsOf}
use Rattle.judgement_matrix.proofs.matrix.Matrix.first_cross.Given as goal

abbrev pub invariant-loop-p : goal.invariant-loop-p
invariant-loop-p l = record {
  so_far : first_stop (row_fails l.self l.values) (cross_rows_of l.self l.p-iterator (pairs l.self.size)) ≡ first_stop (row_fails l.self l.values) (cross_rows l.self);
  pairs : AllPairsOf l.self.size l.p-iterator;
}
