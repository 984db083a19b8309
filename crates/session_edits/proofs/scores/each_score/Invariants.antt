use Rattle.std.proofs.Common.{◌≡◌, ◌++◌, ◌-◌, length, Ok}
use Rattle.std.specs.List.{range_with_len}
use Rattle.frac128.specs.Chain.{checked_each}
use Rattle.session_edits.specs.Refusals.{or_too_wide, ◌>>=◌}
use Rattle.session_edits.specs.Scores.{score_of, each_score}
use Rattle.session_edits.proofs.scores.each_score.Given as goal

abbrev pub invariant-loop-option : goal.invariant-loop-option
invariant-loop-option l =
    (or_too_wide (checked_each (score_of l.model l.worths) (range_with_len l.option (length l.model.options - l.option))) >>= λ ys. Ok (l.scores.items ++ ys))
    ≡ or_too_wide (each_score l.model l.worths)
