use Rattle.std.proofs.Common.{◌≡◌, ◌++◌, map, drop}
use Rattle.model_core.specs.Finding.{criterion_at}
use Rattle.session_edits.proofs.names.weighed_names.Given as goal

abbrev pub invariant-loop-place : goal.invariant-loop-place
invariant-loop-place l =
    l.names.items ++ map (λ c. (criterion_at l.model c).name) (drop l.place l.model.order) ≡ map (λ c. (criterion_at l.model c).name) l.model.order
