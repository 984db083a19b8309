use Rattle.std.proofs.Common.{◌≡◌, ◌++◌, ◌-◌, length, Ok}
use Rattle.std.specs.List.{range_with_len}
use Rattle.frac128.specs.Chain.{checked_each}
use Rattle.session_edits.specs.Refusals.{or_too_wide, ◌>>=◌}
use Rattle.session_edits.specs.Scores.{partial_score, criteria_under, checked_parts}
use Rattle.session_edits.proofs.scores.each_part.Given as goal

abbrev pub invariant-loop-group : goal.invariant-loop-group
invariant-loop-group l =
    (or_too_wide (checked_each (λ g. partial_score l.model l.worths l.option (criteria_under l.model g))
    (range_with_len l.group (length l.model.groups - l.group))) >>= λ ys. Ok (l.parts.items ++ ys)) ≡ or_too_wide (checked_parts l.model l.worths l.option)
