-- The list of groups, and the criteria that are placed.
use Rattle.std.specs.Prelude.{ℕ, List, [], ◌∷◌, map, slice_index_or, Option}
use Rattle.std.specs.List.{flat_map}
use Rattle.std.specs.Option.{option_map, option_map_or}
use Rattle.model_core.specs.State.{ModelState, GroupState, CriterionState}
use Rattle.report_text.specs.declared.reply.Reply.{Reply}
use Rattle.report_text.specs.declared.reply.Reply.TheVariants as reply
use Rattle.session_edits.specs.Scores.{group_names}

-- the name of the group at a place
abbrev pub group_name : ModelState → ℕ → List ℕ
group_name m g = slice_index_or (group_names m) g []

-- a group, and the group above it
abbrev pub group_entry : ModelState → GroupState → List ℕ × Option (List ℕ)
group_entry m group = (group.name, option_map (group_name m) group.parent)

-- a criterion and its group, where it has one
abbrev pub placed_entry : ModelState → CriterionState → List (List ℕ × List ℕ)
placed_entry m c = option_map_or (λ g. (c.name, group_name m g) ∷ []) c.group []

abbrev pub groups_reply : ModelState → Reply
groups_reply m = reply.Groups (map (group_entry m) m.groups) (flat_map (placed_entry m) m.criteria)
