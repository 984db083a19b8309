use Rattle.std.proofs.Common.{◌≡◌, ◌++◌, drop, map}
use Rattle.session_edits.specs.Scores.{weight_at}
use Rattle.session_edits.proofs.scores.weights_at.Given as goal

abbrev pub invariant-loop-criterion : goal.invariant-loop-criterion
invariant-loop-criterion l =
    l.some.items ++ map (weight_at l.model l.worths) (drop l.criterion-index l.criteria) ≡ map (weight_at l.model l.worths) l.criteria
