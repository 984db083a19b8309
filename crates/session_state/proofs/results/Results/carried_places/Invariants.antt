use Rattle.std.proofs.Common.{◌≡◌, ◌++◌, map, drop}
use Rattle.session_state.specs.State.{still_kept}
use Rattle.session_state.proofs.results.Results.carried_places.Given as goal

abbrev pub invariant-loop-at : goal.invariant-loop-at
invariant-loop-at l =
    l.kept.items ++ map (still_kept l.model l.self) (drop l.at l.after.criteria) ≡ map (still_kept l.model l.self) l.after.criteria
