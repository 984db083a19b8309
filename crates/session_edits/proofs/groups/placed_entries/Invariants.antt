use Rattle.std.proofs.Common.{◌≡◌, ◌++◌, drop}
use Rattle.std.specs.List.{flat_map}
use Rattle.session_edits.specs.Groups.{placed_entry}
use Rattle.session_edits.proofs.groups.placed_entries.Given as goal

abbrev pub invariant-loop-at : goal.invariant-loop-at
invariant-loop-at l =
    l.entries.items ++ flat_map (placed_entry l.model) (drop l.at l.model.criteria) ≡ flat_map (placed_entry l.model) l.model.criteria
