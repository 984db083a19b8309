-- The matrices that a session may be asked about: those of the criteria, and that of the weighting where there is a criterion.
use Rattle.std.specs.Prelude.{ℕ, List, [], ◌∷◌, ◌++◌, map, length, nat_lt, Option, Some, None, codes, if◌then◌else◌}
use Rattle.std.specs.List.{range_with_len}
use Rattle.std.specs.Option.{option_map}
use Rattle.std.specs.Str.{bytes_eq}
use Rattle.model_core.specs.State.{ModelState}
use Rattle.model_core.specs.Finding.{find_criterion, criterion_at}
use Rattle.session_state.specs.declared.subject.Subject.{Subject}
use Rattle.session_state.specs.declared.subject.Subject.TheVariants.{Criterion, Weighting}

-- the criterion of this name
abbrev pub criterion_named : ModelState → List ℕ → Option Subject
criterion_named m name = option_map Criterion (find_criterion m name)

-- the weighting, which needs a criterion
abbrev pub weighting_of : ModelState → Option Subject
weighting_of m = if nat_lt 0 (length m.criteria) then Some Weighting else None

-- the criterion of this name, or for `weighting` the weighting
abbrev pub matrix_named : ModelState → List ℕ → Option Subject
matrix_named m name = if bytes_eq name (codes "weighting") then weighting_of m else criterion_named m name

-- the places of the criteria in the model
abbrev pub places : ModelState → List ℕ
places m = range_with_len 0 (length m.criteria)

-- the criteria in model order, and then the weighting
abbrev pub all_subjects : ModelState → List Subject
all_subjects m = map Criterion (places m) ++ Weighting ∷ []

-- the criteria by name, in the order of the weighting
abbrev pub weighed_names : ModelState → List (List ℕ)
weighed_names m = map (λ c. (criterion_at m c).name) m.order

-- the elements of a matrix; those of the weighting are the swings of the criteria, and the profile that is neutral on all
abbrev pub names_of : ModelState → Subject → List (List ℕ)
names_of m (Criterion c) = (criterion_at m c).elements
names_of m Weighting = weighed_names m ++ codes "none" ∷ []
