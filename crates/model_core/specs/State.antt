-- The model as the contracts see it: plain lists in one record. Options, criteria and groups count from 0; elements of a criterion
-- and places of the weighting count from 1.
use Rattle.std.specs.Prelude.{◌≡◌, ℕ, ◌+◌, ◌<◌, ◌≤◌, Bool, false, ◌||◌, List, [], Option, Some, None, length, slice_get, slice_index_or, All, codes}
use Rattle.std.specs.Option.{option_and_then}
use Rattle.std.specs.Str.{bytes_eq}
use Rattle.integers.specs.Counting.{IsOrder}
use Rattle.word_table.specs.Words.{AreApart}
use Rattle.judgement_matrix.specs.Matrix.{Judgements, unjudged}
use Rattle.judgement_matrix.specs.declared.matrix.TheConstants.{LIMIT}
use Rattle.judgement_matrix.specs.declared.reach.TheConstants.{LEAST_REACH, MOST_REACH}
use Rattle.model_core.specs.declared.limits.TheConstants.{OPTIONS, CRITERIA, GROUPS}

-- a criterion: its elements in the listed order, the good and the neutral one, the judgements, the reach, its group or the root
pub record CriterionState : Type 0 where
  pub name : List ℕ
  pub elements : List (List ℕ)
  pub good : ℕ
  pub neutral : ℕ
  pub matrix : Judgements
  pub reach : ℕ
  pub group : Option ℕ

-- a group of criteria and the group that it belongs to, or the root
pub record GroupState : Type 0 where
  pub name : List ℕ
  pub parent : Option ℕ

-- the names of the options; the criteria; the groups; for each option a row with a place for each criterion, which holds the place
-- of an element or nothing; the criteria in the order of the weighting; the judgements of the weighting
pub record ModelState : Type 0 where
  pub options : List (List ℕ)
  pub criteria : List CriterionState
  pub groups : List GroupState
  pub performances : List (List (Option ℕ))
  pub order : List ℕ
  pub weighting : Judgements

-- names that stand for something else
abbrev pub is_reserved : List ℕ → Bool
is_reserved name = bytes_eq name (codes "none") || bytes_eq name (codes "weighting")

-- what a criterion keeps
pub record IsCriterion (c : CriterionState) : Type 0 where
  pub least : 2 ≤ length c.elements
  pub most : length c.elements ≤ LIMIT
  pub apart : AreApart c.elements
  pub good_is : 1 ≤ c.good
  pub above : c.good < c.neutral
  pub neutral_is : c.neutral ≤ length c.elements
  pub size : c.matrix.size ≡ length c.elements
  pub least_reach : LEAST_REACH ≤ c.reach
  pub most_reach : c.reach ≤ MOST_REACH
  pub free_name : is_reserved c.name ≡ false

-- no criterion
abbrev pub no_criterion : CriterionState
no_criterion = record { name = []; elements = []; good = 0; neutral = 0; matrix = unjudged 1; reach = 0; group = None }

-- the elements of the criterion at a place
abbrev pub elements_of : List CriterionState → ℕ → List (List ℕ)
elements_of criteria c = (slice_index_or criteria c no_criterion).elements

-- a row has a place for each criterion, with nothing or an element of it
pub record IsRow (criteria : List CriterionState) (row : List (Option ℕ)) : Type 0 where
  pub each : length row ≡ length criteria
  pub performed : (c e : ℕ) → slice_index_or row c None ≡ Some e → (1 ≤ e) × (e ≤ length (elements_of criteria c))

-- the group that a group belongs to
abbrev pub parent_of : List GroupState → ℕ → Option ℕ
parent_of groups g = option_and_then (λ group. group.parent) (slice_get groups g)

-- each parent stands earlier
abbrev pub AreGroups : List GroupState → Type 0
AreGroups groups = (g above : ℕ) → parent_of groups g ≡ Some above → above < g

-- a model without options, criteria and groups
abbrev pub empty_model : ModelState
empty_model = record { options = []; criteria = []; groups = []; performances = []; order = []; weighting = unjudged 1 }

-- what a model keeps, besides names that are apart
pub record IsModel (m : ModelState) : Type 0 where
  pub few_options : length m.options ≤ OPTIONS
  pub few_criteria : length m.criteria ≤ CRITERIA
  pub few_groups : length m.groups ≤ GROUPS
  pub rows : length m.performances ≡ length m.options
  pub each_row : All (IsRow m.criteria) m.performances
  pub order_is : IsOrder (length m.criteria) m.order
  pub size : m.weighting.size ≡ length m.criteria + 1
  pub groups_are : AreGroups m.groups
  pub placed : (c g : ℕ) → (slice_index_or m.criteria c no_criterion).group ≡ Some g → g < length m.groups
