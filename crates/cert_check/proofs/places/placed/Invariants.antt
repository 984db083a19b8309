use Rattle.std.proofs.Common.{◌≡◌, ◌++◌, drop, map}
use Rattle.cert_check.specs.Places.{at_place}
use Rattle.cert_check.proofs.places.placed.Given as goal

abbrev pub invariant-loop-entry : goal.invariant-loop-entry
invariant-loop-entry l = l.on.items ++ map (at_place l.tags) (drop l.entry-index l.entries) ≡ map (at_place l.tags) l.entries
