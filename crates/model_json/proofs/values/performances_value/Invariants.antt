use Rattle.std.proofs.Common.{◌≡◌, drop, []}
use Rattle.std.specs.Prelude.{slice_index_or}
use Rattle.serde_json.specs.Data.{no_members}
use Rattle.serde_json.specs.View.{members_view}
use Rattle.model_json.specs.Writing.{performance_members}
use Rattle.model_json.proofs.values.performances_value.Given as goal

abbrev pub invariant-loop-c : goal.invariant-loop-c
invariant-loop-c l =
    performance_members (drop l.c l.model.criteria) (drop l.c (slice_index_or l.model.performances l.option [])) (members_view l.members.entries)
    ≡ performance_members l.model.criteria (slice_index_or l.model.performances l.option []) no_members
