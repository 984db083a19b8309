use Rattle.std.proofs.Common.{◌≡◌, ◌++◌, drop, map}
use Rattle.session_edits.specs.Scores.{value_at}
use Rattle.session_edits.proofs.scores.values_at.Given as goal

abbrev pub invariant-loop-criterion : goal.invariant-loop-criterion
invariant-loop-criterion l =
    l.values.items ++ map (value_at l.model l.worths l.option) (drop l.criterion-index l.criteria) ≡ map (value_at l.model l.worths l.option) l.criteria
