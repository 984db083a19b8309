use Rattle.std.proofs.Common.{◌≡◌, take}
use Rattle.session_edits.proofs.names.element_names.Given as goal

abbrev pub invariant-loop-at : goal.invariant-loop-at
invariant-loop-at l = l.names.items ≡ take l.at l.criterion.elements
