use Rattle.std.proofs.Common.{◌≡◌, ◌-◌, length}
use Rattle.std.specs.List.{range_with_len}
use Rattle.session_edits.specs.Scores.{missing_on}
use Rattle.session_edits.specs.Subjects.{places}
use Rattle.session_edits.proofs.scores.missing_on.Given as goal

abbrev pub invariant-loop-criterion : goal.invariant-loop-criterion
invariant-loop-criterion l =
    missing_on l.model l.option (range_with_len l.criterion (length l.model.criteria - l.criterion)) ≡ missing_on l.model l.option (places l.model)
