use Rattle.std.proofs.Common.{◌≡◌, ◌++◌, map, drop}
use Rattle.session_edits.specs.Groups.{group_entry}
use Rattle.session_edits.proofs.groups.group_entries.Given as goal

abbrev pub invariant-loop-at : goal.invariant-loop-at
invariant-loop-at l = l.entries.items ++ map (group_entry l.model) (drop l.at l.model.groups) ≡ map (group_entry l.model) l.model.groups
