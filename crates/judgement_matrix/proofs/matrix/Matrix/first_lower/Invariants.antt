use Rattle.std.proofs.Common.{◌≡◌}
use Rattle.judgement_matrix.specs.Rows.{lower_rows, lower_rows_of}
use Rattle.judgement_matrix.specs.Walk.{row_fails, first_stop}
use Rattle.judgement_matrix.proofs.Walks.{AllPairsOf}
use Rattle.judgement_matrix.proofs.matrix.Matrix.first_lower.Given as goal

abbrev pub invariant-loop-p : goal.invariant-loop-p
invariant-loop-p l = record {
  so_far : first_stop (row_fails l.self l.values) (lower_rows_of l.self l.p-iterator) ≡ first_stop (row_fails l.self l.values) (lower_rows l.self);
  pairs : AllPairsOf l.self.size l.p-iterator;
}
