use Rattle.std.proofs.Common.{◌≡◌, ◌++◌, ◌-◌, length}
use Rattle.std.specs.List.{range_with_len}
use Rattle.session_edits.proofs.scores.all_places.Given as goal

abbrev pub invariant-loop-criterion : goal.invariant-loop-criterion
invariant-loop-criterion l =
    l.all.items ++ range_with_len l.criterion (length l.model.criteria - l.criterion) ≡ range_with_len 0 (length l.model.criteria)
