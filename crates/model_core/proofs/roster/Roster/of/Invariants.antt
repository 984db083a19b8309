use Rattle.std.proofs.Common.{◌≡◌, take}
use Rattle.model_core.proofs.roster.Roster.of.Given as goal

abbrev pub invariant-loop-item : goal.invariant-loop-item
invariant-loop-item g l = l.roster ≡ take l.item-index l.items
