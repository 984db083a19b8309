use Rattle.std.proofs.Common.{◌≡◌, ℕ, drop, map}
use Rattle.csv.specs.Records.{fields_of}
use Rattle.judgement_matrix.specs.Matrix.{pairs}
use Rattle.judgement_matrix.proofs.Walks.{AllPairsOf}
use Rattle.table_csv.proofs.CellLemmas.{written}
use Rattle.table_csv.proofs.reading.matrix_in.Given as goal

abbrev pub invariant-loop-p : goal.invariant-loop-p
invariant-loop-p l =
    (i : ℕ) × (l.p-iterator ≡ drop i (pairs l.size)) × (l.matrix ≡ written l.size (map fields_of l.records) i) × AllPairsOf l.size l.p-iterator
