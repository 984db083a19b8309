use Rattle.std.proofs.Common.{◌≡◌, take}
use Rattle.session_edits.proofs.scores.option_names.Given as goal

abbrev pub invariant-loop-option : goal.invariant-loop-option
invariant-loop-option l = l.names.items ≡ take l.option l.model.options
