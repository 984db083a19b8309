use Rattle.std.proofs.Common.{◌≡◌}
use Rattle.judgement_matrix.specs.Matrix.{pairs}
use Rattle.judgement_matrix.specs.Rows.{cross_rows_under}
use Rattle.judgement_matrix.specs.Walk.{row_fails, first_stop}
use Rattle.judgement_matrix.proofs.Walks.{AllPairsOf}
use Rattle.judgement_matrix.proofs.matrix.Matrix.first_cross_under.Given as goal

abbrev pub invariant-loop-x : goal.invariant-loop-x
invariant-loop-x l = record {
  so_far : first_stop (row_fails l.self l.values) (cross_rows_under l.self (l.p, l.q) l.x-iterator) ≡ first_stop (row_fails l.self l.values) (cross_rows_under l.self (l.p, l.q) (pairs l.self.size));
  pairs : AllPairsOf l.self.size l.x-iterator;
}
