use Rattle.std.proofs.Common.{◌≡◌, ◌++◌, drop, map}
use Rattle.std.specs.List.{zip}
use Rattle.session_edits.specs.Scores.{group_names}
use Rattle.session_edits.proofs.scores.beside_groups.Given as goal

abbrev pub invariant-loop-group : goal.invariant-loop-group
invariant-loop-group l =
    l.named.items ++ zip (map (λ group. group.name) (drop l.group l.model.groups)) (drop l.group l.parts) ≡ zip (group_names l.model) l.parts
