use Rattle.std.proofs.Common.{◌≡◌, ◌++◌, drop, map, pos}
use Rattle.frac128.specs.Entries.{entries_from}
use Rattle.lp_macbeth.proofs.translation.entries.Given as goal

abbrev pub invariant-loop-position : goal.invariant-loop-position
invariant-loop-position l = l.on.items ++ entries_from l.position (map (λ w. pos w) (drop l.position l.weights)) ≡ entries_from 0 (map (λ w. pos w) l.weights)
