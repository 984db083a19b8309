use Rattle.std.proofs.Common.{◌≡◌, ◌++◌, ◌-◌, length}
use Rattle.std.specs.Prelude.{filter}
use Rattle.std.specs.List.{range_with_len}
use Rattle.model_core.specs.Finding.{criterion_at}
use Rattle.session_edits.specs.Scores.{is_under, criteria_under}
use Rattle.session_edits.proofs.scores.places_under.Given as goal

abbrev pub invariant-loop-criterion : goal.invariant-loop-criterion
invariant-loop-criterion l =
    l.some.items ++ filter (λ c. is_under l.model.groups (criterion_at l.model c).group l.group)
    (range_with_len l.criterion (length l.model.criteria - l.criterion)) ≡ criteria_under l.model l.group
