use Rattle.std.proofs.Common.{◌≡◌, ◌+◌, ◌-◌}
use Rattle.std.specs.List.{range_with_len}
use Rattle.session_edits.specs.Scores.{missing}
use Rattle.session_edits.proofs.scores.missing.Given as goal

abbrev pub invariant-loop-option : goal.invariant-loop-option
invariant-loop-option l = missing l.model (range_with_len l.option ((l.first + l.count) - l.option)) ≡ missing l.model (range_with_len l.first l.count)
