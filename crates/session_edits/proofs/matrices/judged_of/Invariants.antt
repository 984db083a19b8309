use Rattle.std.proofs.Common.{◌≡◌, ◌++◌, drop}
use Rattle.std.specs.List.{flat_map}
use Rattle.model_json.specs.Writing.{judged_at}
use Rattle.session_edits.proofs.matrices.judged_of.Given as goal

abbrev pub invariant-loop-pair : goal.invariant-loop-pair
invariant-loop-pair l = l.judged.items ++ flat_map (judged_at l.matrix) (drop l.pair-index l.pairs) ≡ flat_map (judged_at l.matrix) l.pairs
