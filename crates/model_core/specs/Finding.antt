-- Where things of a model stand.
use Rattle.std.specs.Prelude.{◌≡◌, ℕ, zero, suc, ◌+◌, ◌==◌, List, Option, Some, length, slice_index_or, codes, if◌then◌else◌}
use Rattle.std.specs.List.{position_or_len}
use Rattle.std.specs.Option.{option_and_then, option_map}
use Rattle.std.specs.Str.{bytes_eq}
use Rattle.model_core.specs.Lists.{find}
use Rattle.model_core.specs.State.{CriterionState, GroupState, ModelState, no_criterion, parent_of}

abbrev pub find_option : ModelState → List ℕ → Option ℕ
find_option m name = find (λ option. option) m.options name

abbrev pub find_criterion : ModelState → List ℕ → Option ℕ
find_criterion m name = find (λ criterion. criterion.name) m.criteria name

abbrev pub find_group : ModelState → List ℕ → Option ℕ
find_group m name = find (λ group. group.name) m.groups name

-- the criterion at a place
abbrev pub criterion_at : ModelState → ℕ → CriterionState
criterion_at m c = slice_index_or m.criteria c no_criterion

-- where an element of a criterion stands, from 1
abbrev pub find_element : CriterionState → List ℕ → Option ℕ
find_element c name = option_map (λ at. at + 1) (find (λ element. element) c.elements name)

-- the place of a criterion in the weighting order, from 1
abbrev pub place_in : List ℕ → ℕ → ℕ
place_in order c = position_or_len (λ d. d == c) order + 1

-- the place of a criterion in the weighting by its name; `none` is the all-neutral profile, which stands last
abbrev pub weigh_place : ModelState → List ℕ → Option ℕ
weigh_place m name = if bytes_eq name (codes "none") then Some (length m.criteria + 1) else option_map (place_in m.order) (find_criterion m name)

-- the parent of a group, n times
abbrev pub ancestor : List GroupState → ℕ → Option ℕ → Option ℕ
ancestor groups zero group = group
ancestor groups (suc n) group = ancestor groups n (option_and_then (parent_of groups) group)

-- a group is this one, or a parent of it at any remove
abbrev pub LiesUnder : List GroupState → Option ℕ → ℕ → Type 0
LiesUnder groups group g = (n : ℕ) × (ancestor groups n group ≡ Some g)

-- the size of the matrix of this name: that of a criterion, or of the weighting
abbrev pub matrix_size : ModelState → List ℕ → Option ℕ
matrix_size m name =
    if bytes_eq name (codes "weighting") then Some (length m.criteria + 1)
    else option_map (λ c. length (criterion_at m c).elements) (find_criterion m name)
