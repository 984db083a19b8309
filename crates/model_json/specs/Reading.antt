-- The model that a JSON value is, or the first place that is not as it has to be: each check in the order in which it is made.
use Rattle.std.specs.Prelude.{ℕ, ◌+◌, ◌&&◌, ◌==◌, not, Bool, true, false, List, [], ◌∷◌, ◌++◌, length, map, replicate, nat_lt, nat_le, Option, Some, None, is_some, Result, Ok, Err, codes, if◌then◌else◌}
use Rattle.std.specs.Option.{option_and_then, option_map}
use Rattle.std.specs.List.{list_any}
use Rattle.std.specs.Str.{bytes_eq}
use Rattle.serde_json.specs.Data.{Data, Items, no_items}
use Rattle.serde_json.specs.Find.{get, at, get_item}
use Rattle.judgement_matrix.specs.Range.{bounds}
use Rattle.judgement_matrix.specs.Matrix.{Judgements, unjudged, judged, cell_at}
use Rattle.judgement_matrix.specs.declared.matrix.TheConstants.{LIMIT}
use Rattle.model_core.specs.Lists.{find}
use Rattle.model_core.specs.State.{CriterionState, ModelState, empty_model, is_reserved}
use Rattle.model_core.specs.Finding.{find_option, find_criterion, find_group}
use Rattle.model_core.specs.Edits.{with_criterion, with_group, is_permutation}
use Rattle.judgement_matrix.specs.declared.reach.TheConstants.{LEAST_REACH, MOST_REACH}
use Rattle.model_core.specs.declared.limits.TheConstants.{OPTIONS, CRITERIA, GROUPS, NEW_REACH}
use Rattle.model_json.specs.declared.judgements.Numbers.{Numbers}
use Rattle.model_json.specs.declared.criteria.Details.{Details}
use Rattle.model_json.specs.declared.place.Place.{Place}
use Rattle.model_json.specs.declared.place.Place.TheVariants as place
use Rattle.frac128.specs.Chain.{◌>>=◌, found_or, holds_or}
use Rattle.model_json.specs.Steps.{whole, string_at, name_at, array_at, array_or_none, object_at, each_into}

-- ---- judgements: `[p, q, lo, hi]` with places from 1

-- four whole numbers and nothing else
abbrev pub no_fifth : Option Data → Numbers → Option Numbers
no_fifth None numbers = Some numbers
no_fifth (Some value) numbers = None

abbrev pub four : Data → Option Numbers
four d =
    option_and_then (λ p. option_and_then (λ q. option_and_then (λ l. option_and_then (λ m.
    no_fifth (at 4 d) (record { upper = p; lower = q; least = l; most = m }))
    (whole (at 3 d))) (whole (at 2 d))) (whole (at 1 d))) (whole (at 0 d))

-- the first place stands above the second, and the least category is not above the greatest
abbrev pub is_judgement : ℕ → Numbers → Bool
is_judgement size j =
    (nat_lt 0 j.upper && (nat_lt j.upper j.lower && nat_le j.lower size)) && (nat_le j.least j.most && nat_le j.most 6)

-- where the judgements of a criterion stand, or those of the weighting
abbrev pub judgements_place : Option ℕ → Place
judgements_place None = place.Swings
judgements_place (Some i) = place.Judgements i

abbrev pub judgement_place : Option ℕ → ℕ → Place
judgement_place None j = place.Swing j
judgement_place (Some i) j = place.Judgement i j

-- a judgement of a pair that isn't judged yet
unfoldable pub judgement_of : Option ℕ → ℕ → Judgements → Data → Result Judgements Place
judgement_of criterion j m d = do
  numbers ← found_or (judgement_place criterion j) (four d)
  good ← holds_or (judgement_place criterion j) (is_judgement m.size numbers)
  new ← holds_or (judgement_place criterion j) (not (cell_at m numbers.upper numbers.lower).1)
  Ok (judged m numbers.upper numbers.lower (bounds numbers.least numbers.most))

-- the judgements of so many elements
unfoldable pub judgements_of : Option ℕ → ℕ → Option Data → Result Judgements Place
judgements_of criterion size value = do
  judgements ← array_or_none (judgements_place criterion) value
  each_into (judgement_of criterion) 0 (unjudged size) judgements

-- ---- groups

-- the root, or the group that has this name
abbrev pub group_or_root : Place → ModelState → Option Data → Result (Option ℕ) Place
group_or_root at_place m None = Ok None
group_or_root at_place m (Some d) = do
  name ← string_at at_place (Some d)
  g ← found_or at_place (find_group m name)
  Ok (Some g)

unfoldable pub group_of : ℕ → ModelState → Data → Result ModelState Place
group_of i m d = do
  plain ← object_at (place.Group i) (codes "name" ∷ codes "parent" ∷ []) d
  room ← holds_or (place.Group i) (nat_lt i GROUPS)
  name ← name_at (place.GroupName i) (get (codes "name") d)
  free ← holds_or (place.GroupName i) (not (is_some (find_group m name)))
  parent ← group_or_root (place.GroupParent i) m (get (codes "parent") d)
  Ok (with_group m (record { name = name; parent = parent }))

-- format 1 has no groups
abbrev pub groups_in : Bool → Option Data → Result Items Place
groups_in grouped None = Ok no_items
groups_in grouped (Some value) = do
  allowed ← holds_or place.Groups grouped
  array_at place.Groups (Some value)

-- ---- criteria

-- where a name stands among these, from 1
abbrev pub place_among : List (List ℕ) → List ℕ → Option ℕ
place_among names name = option_map (λ at. at + 1) (find (λ other. other) names name)

unfoldable pub element_of : ℕ → ℕ → List (List ℕ) → Data → Result (List (List ℕ)) Place
element_of i j elements d = do
  name ← name_at (place.Element i j) (Some d)
  free ← holds_or (place.Element i j) (not (list_any (bytes_eq name) elements))
  room ← holds_or (place.Element i j) (nat_lt j LIMIT)
  Ok (elements ++ name ∷ [])

-- at least two names
unfoldable pub elements_of : ℕ → Option Data → Result (List (List ℕ)) Place
elements_of i value = do
  elements ← array_at (place.Elements i) value
  several ← holds_or (place.Elements i) (is_some (get_item 1 elements))
  each_into (element_of i) 0 [] elements

-- the place of the element with the name that stands here, from 1, or this one where there is no such key
abbrev pub element_or : Place → List (List ℕ) → ℕ → Option Data → Result ℕ Place
element_or at_place elements absent None = Ok absent
element_or at_place elements absent (Some d) = do
  name ← string_at at_place (Some d)
  found_or at_place (place_among elements name)

abbrev pub reach_or : Place → Option Data → Result ℕ Place
reach_or at_place None = Ok NEW_REACH
reach_or at_place (Some d) = do
  reach ← found_or at_place (whole (Some d))
  within ← holds_or at_place (nat_le LEAST_REACH reach && nat_le reach MOST_REACH)
  Ok reach

abbrev pub criterion_keys : Bool → List (List ℕ)
criterion_keys true =
    codes "elements" ∷ codes "good" ∷ codes "judgements" ∷ codes "name" ∷ codes "neutral" ∷ codes "reach"
    ∷ codes "group" ∷ []
criterion_keys false =
    codes "elements" ∷ codes "good" ∷ codes "judgements" ∷ codes "name" ∷ codes "neutral" ∷ codes "reach" ∷ []

-- whether a new criterion may have this name
unfoldable pub is_free : ModelState → List ℕ → Bool
is_free m name = not (is_reserved name) && not (is_some (find_criterion m name))

-- the name of a new criterion
unfoldable pub free_name_of : ℕ → ModelState → Option Data → Result (List ℕ) Place
free_name_of i m value = do
  name ← name_at (place.CriterionName i) value
  free ← holds_or (place.CriterionName i) (is_free m name)
  Ok name

-- the good and the neutral element, the good one listed above the neutral one
unfoldable pub references_of : ℕ → List (List ℕ) → Data → Result (ℕ × ℕ) Place
references_of i elements d = do
  good ← element_or (place.Good i) elements 1 (get (codes "good") d)
  neutral ← element_or (place.Neutral i) elements (length elements) (get (codes "neutral") d)
  above ← holds_or (place.Neutral i) (nat_lt good neutral)
  Ok (good, neutral)

-- what stands beside the name and the elements of a criterion
unfoldable pub details_of : ℕ → ModelState → List (List ℕ) → Data → Result Details Place
details_of i m elements d = do
  refs ← references_of i elements d
  matrix ← judgements_of (Some i) (length elements) (get (codes "judgements") d)
  reach ← reach_or (place.Reach i) (get (codes "reach") d)
  group ← group_or_root (place.CriterionGroup i) m (get (codes "group") d)
  Ok (record { good = refs.0; neutral = refs.1; matrix = matrix; reach = reach; group = group })

-- the parts of a criterion
unfoldable pub parts_of : Bool → ℕ → ModelState → Data → Result CriterionState Place
parts_of grouped i m d = do
  plain ← object_at (place.Criterion i) (criterion_keys grouped) d
  room ← holds_or (place.Criterion i) (nat_lt i CRITERIA)
  name ← free_name_of i m (get (codes "name") d)
  elements ← elements_of i (get (codes "elements") d)
  details ← details_of i m elements d
  Ok (record {
    name = name;
    elements = elements;
    good = details.good;
    neutral = details.neutral;
    matrix = details.matrix;
    reach = details.reach;
    group = details.group;
  })

-- the model with one more criterion
unfoldable pub criterion_of : Bool → ℕ → ModelState → Data → Result ModelState Place
criterion_of grouped i m d = do
  criterion ← parts_of grouped i m d
  Ok (with_criterion m criterion)

-- ---- options

-- the place of the element that stands here, or nothing where there is no such key
abbrev pub performance_of : Place → CriterionState → Option Data → Result (Option ℕ) Place
performance_of at_place c None = Ok None
performance_of at_place c (Some d) = do
  name ← string_at at_place (Some d)
  e ← found_or at_place (place_among c.elements name)
  Ok (Some e)

-- a place for each criterion, by its name
unfoldable pub performances_of : Place → List CriterionState → Data → Result (List (Option ℕ)) Place
performances_of at_place [] d = Ok []
performances_of at_place (c ∷ cs) d = do
  performance ← performance_of at_place c (get c.name d)
  performances ← performances_of at_place cs d
  Ok (performance ∷ performances)

-- an object whose keys are criteria and whose values are elements of them
unfoldable pub row_of : Place → List CriterionState → Option Data → Result (List (Option ℕ)) Place
row_of at_place criteria None = Ok (replicate (length criteria) None)
row_of at_place criteria (Some d) = do
  plain ← object_at at_place (map (λ c. c.name) criteria) d
  performances_of at_place criteria d

-- the model with a further option, which performs so
abbrev pub with_row : ModelState → List ℕ → List (Option ℕ) → ModelState
with_row m name row = record m { options = m.options ++ name ∷ []; performances = m.performances ++ row ∷ [] }

unfoldable pub option_of : ℕ → ModelState → Data → Result ModelState Place
option_of i m d = do
  plain ← object_at (place.OptionAt i) (codes "name" ∷ codes "performances" ∷ []) d
  room ← holds_or (place.OptionAt i) (nat_lt i OPTIONS)
  name ← name_at (place.OptionName i) (get (codes "name") d)
  free ← holds_or (place.OptionName i) (not (is_some (find_option m name)))
  row ← row_of (place.Performances i) m.criteria (get (codes "performances") d)
  Ok (with_row m name row)

-- ---- the weighting

-- the criterion that has this name
abbrev pub rank_of : ModelState → Data → Result ℕ Place
rank_of m d = do
  name ← string_at place.Order (Some d)
  found_or place.Order (find_criterion m name)

-- the order with one more criterion
unfoldable pub ranked_of : ModelState → ℕ → List ℕ → Data → Result (List ℕ) Place
ranked_of m i order d = do
  c ← rank_of m d
  Ok (order ++ c ∷ [])

-- each criterion's name once
unfoldable pub order_of : ModelState → Option Data → Result (List ℕ) Place
order_of m None = Ok m.order
order_of m (Some d) = do
  names ← array_at place.Order (Some d)
  order ← each_into (ranked_of m) 0 [] names
  each ← holds_or place.Order (is_permutation (length m.criteria) order)
  Ok order

unfoldable pub weighting_of : ModelState → Option Data → Result ModelState Place
weighting_of m None = Ok m
weighting_of m (Some d) = do
  plain ← object_at place.Weighting (codes "judgements" ∷ codes "order" ∷ []) d
  order ← order_of m (get (codes "order") d)
  swings ← judgements_of None (length m.criteria + 1) (get (codes "judgements") d)
  Ok (record m { order = order; weighting = swings })

-- ---- the whole

abbrev pub if_format : ℕ → Result Bool Place
if_format n = if n == 1 then Ok false else (if n == 2 then Ok true else Err place.Version)

-- whether the format has groups
unfoldable pub format_of : Option Data → Result Bool Place
format_of value = do
  n ← found_or place.Version (whole value)
  if_format n

abbrev pub model_keys : List (List ℕ)
model_keys = codes "macbeth" ∷ codes "criteria" ∷ codes "groups" ∷ codes "options" ∷ codes "weighting" ∷ []

-- the model with criteria, options and a weighting
unfoldable pub contents_of : Bool → ModelState → Data → Result ModelState Place
contents_of grouped m d = do
  criteria ← array_at place.Criteria (get (codes "criteria") d)
  after_criteria ← each_into (criterion_of grouped) 0 m criteria
  options ← array_or_none place.Options (get (codes "options") d)
  after_options ← each_into option_of 0 after_criteria options
  weighting_of after_options (get (codes "weighting") d)

unfoldable pub model_of : Data → Result ModelState Place
model_of d = do
  plain ← object_at place.Whole model_keys d
  grouped ← format_of (get (codes "macbeth") d)
  groups ← groups_in grouped (get (codes "groups") d)
  after_groups ← each_into group_of 0 empty_model groups
  contents_of grouped after_groups d
