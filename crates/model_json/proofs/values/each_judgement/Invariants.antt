use Rattle.std.proofs.Common.{◌≡◌, ◌++◌, map}
use Rattle.std.specs.List.{flat_map}
use Rattle.serde_json.specs.View.{view}
use Rattle.judgement_matrix.proofs.Walks.{AllPairsOf}
use Rattle.model_json.specs.Writing.{judged_at, judged_pairs, judgement_data}
use Rattle.model_json.proofs.values.each_judgement.Given as goal

abbrev pub invariant-loop-p : goal.invariant-loop-p
invariant-loop-p l = record {
  so_far : map view l.values.items ++ map judgement_data (flat_map (judged_at l.matrix) l.p-iterator) ≡ map judgement_data (judged_pairs l.matrix);
  pairs : AllPairsOf l.matrix.size l.p-iterator;
}
