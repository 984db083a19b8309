-- What an edit does to a model.
use Rattle.std.specs.Prelude.{◌≡◌, ℕ, ◌+◌, ◌-◌, Bool, true, false, not, ◌&&◌, ◌==◌, List, [], ◌∷◌, ◌++◌, Option, Some, None, Result, Ok, Err, length, map, remove, replicate, slice_set, slice_index_or, is_some, nat_lt, nat_le, codes, if◌then◌else◌, ◌⊎◌}
use Rattle.std.specs.List.{list_all, position_or_len}
use Rattle.std.specs.Option.{option_map, option_and_then}
use Rattle.std.specs.Str.{bytes_eq}
use Rattle.frac128.specs.Chain.{◌>>=◌, found_or, holds_or}
use Rattle.word_table.specs.Words.{are_apart}
use Rattle.judgement_matrix.specs.Range.{Bounds}
use Rattle.judgement_matrix.specs.Matrix.{Judgements, unjudged, judged, cleared}
use Rattle.judgement_matrix.specs.Change.{grown, without}
use Rattle.judgement_matrix.specs.declared.matrix.TheConstants.{LIMIT}
use Rattle.model_core.specs.Lists.{changed_at}
use Rattle.model_core.specs.State.{CriterionState, GroupState, ModelState, parent_of}
use Rattle.model_core.specs.Finding.{find_option, find_criterion, find_group, find_element, criterion_at, place_in, weigh_place}
use Rattle.model_core.specs.declared.limits.TheConstants.{OPTIONS, CRITERIA, GROUPS, NEW_REACH}
use Rattle.model_core.specs.declared.edit.EditFault.{EditFault}
use Rattle.model_core.specs.declared.edit.EditFault.TheVariants.{NameTaken, LimitReached, UnknownOption, UnknownCriterion, UnknownElement, UnknownGroup, AgainstOrder, NotPermutation, NoMemory}

pub data Edit : Type 0 where
  add_option : List ℕ → Edit
  drop_option : List ℕ → Edit
  add_criterion : List ℕ → List (List ℕ) → Edit
  drop_criterion : List ℕ → Edit
  set_refs : List ℕ → List ℕ → List ℕ → Edit
  judge : List ℕ → List ℕ → List ℕ → Bounds → Edit
  unjudge : List ℕ → List ℕ → List ℕ → Edit
  perform : List ℕ → List ℕ → List ℕ → Edit
  set_order : List (List ℕ) → Edit
  weigh : List ℕ → List ℕ → Bounds → Edit
  unweigh : List ℕ → List ℕ → Edit
  set_reach : List ℕ → ℕ → Edit
  set_matrix : List ℕ → Judgements → Edit
  add_group : List ℕ → Option (List ℕ) → Edit
  drop_group : List ℕ → Edit
  place : List ℕ → Option (List ℕ) → Edit

-- the model with another list of options, and so on
module _ (m : ModelState) where
  abbrev pub with_change : ℕ → (CriterionState → CriterionState) → ModelState
  with_change c f = record m { criteria = changed_at f m.criteria c }

  -- a new option performs on no criterion
  abbrev pub with_option : List ℕ → ModelState
  with_option name = record m { options = m.options ++ name ∷ []; performances = m.performances ++ replicate (length m.criteria) None ∷ [] }

  abbrev pub without_option : ℕ → ModelState
  without_option o = record m { options = remove m.options o; performances = remove m.performances o }

  -- a new criterion is the last one, also in the weighting, where it stands just above the all-neutral profile
  abbrev pub with_criterion : CriterionState → ModelState
  with_criterion c = record m {
    criteria = m.criteria ++ c ∷ [];
    performances = map (λ row. row ++ None ∷ []) m.performances;
    order = m.order ++ length m.criteria ∷ [];
    weighting = grown m.weighting;
  }

  -- the order without a criterion, where those after it move up
  abbrev pub order_without : ℕ → List ℕ
  order_without c = map (λ d. if nat_lt c d then d - 1 else d) (remove m.order (position_or_len (λ d. d == c) m.order))

  -- a criterion goes, with its performances and its element of the weighting
  abbrev pub without_criterion : ℕ → ModelState
  without_criterion c = record m {
    criteria = remove m.criteria c;
    performances = map (λ row. remove row c) m.performances;
    order = order_without c;
    weighting = without m.weighting (place_in m.order c);
  }

  abbrev pub with_performance : ℕ → ℕ → ℕ → ModelState
  with_performance o c e = record m { performances = slice_set m.performances o (slice_set (slice_index_or m.performances o []) c (Some e)) }

  -- nothing of the weighting is judged in a new order
  abbrev pub with_order : List ℕ → ModelState
  with_order order = record m { order = order; weighting = unjudged (length m.criteria + 1) }

  abbrev pub with_weighting : Judgements → ModelState
  with_weighting weighting = record m { weighting = weighting }

  abbrev pub with_group : GroupState → ModelState
  with_group group = record m { groups = m.groups ++ group ∷ [] }

-- where a group stands after the group g went, whose own parent takes what belonged to it
abbrev pub moved : ℕ → Option ℕ → Option ℕ → Option ℕ
moved g above None = None
moved g above (Some k) = if k == g then above else (if nat_lt g k then Some (k - 1) else Some k)

abbrev pub regrouped : ℕ → Option ℕ → CriterionState → CriterionState
regrouped g above c = record c { group = moved g above c.group }

abbrev pub reparented : ℕ → Option ℕ → GroupState → GroupState
reparented g above group = record group { parent = moved g above group.parent }

-- a group goes; its groups and criteria belong to its parent
abbrev pub without_group : ModelState → ℕ → Option ℕ → ModelState
without_group m g above = record m { groups = map (reparented g above) (remove m.groups g); criteria = map (regrouped g above) m.criteria }

-- the first element is the good one, the last one the neutral one, and nothing is judged
abbrev pub new_criterion : List ℕ → List (List ℕ) → CriterionState
new_criterion name elements = record {
  name = name;
  elements = elements;
  good = 1;
  neutral = length elements;
  matrix = unjudged (length elements);
  reach = NEW_REACH;
  group = None;
}

-- where the criteria of these names stand
abbrev pub places_of : ModelState → List (List ℕ) → Option (List ℕ)
places_of m [] = Some []
places_of m (name ∷ names) = option_and_then (λ c. option_map (λ cs. c ∷ cs) (places_of m names)) (find_criterion m name)

-- whether each of the first n numbers stands once
abbrev pub are_numbers_apart : List ℕ → Bool
are_numbers_apart [] = true
are_numbers_apart (c ∷ cs) = list_all (λ d. not (c == d)) cs && are_numbers_apart cs

abbrev pub is_permutation : ℕ → List ℕ → Bool
is_permutation n order = (length order == n) && are_numbers_apart order

-- the root, or the group with this name
abbrev pub group_named : ModelState → Option (List ℕ) → Result (Option ℕ) EditFault
group_named m None = Ok None
group_named m (Some name) = found_or UnknownGroup (find_group m name) >>= λ g. Ok (Some g)

-- the places of two elements of a criterion, the first listed above the second
abbrev pub pair_of : CriterionState → List ℕ → List ℕ → Result (ℕ × ℕ) EditFault
pair_of c x y = do
  p ← found_or UnknownElement (find_element c x)
  q ← found_or UnknownElement (find_element c y)
  above ← holds_or AgainstOrder (nat_lt p q)
  Ok (p, q)

-- the places of two criteria in the weighting, the first above the second
abbrev pub weigh_pair : ModelState → List ℕ → List ℕ → Result (ℕ × ℕ) EditFault
weigh_pair m x y = do
  p ← found_or UnknownCriterion (weigh_place m x)
  q ← found_or UnknownCriterion (weigh_place m y)
  above ← holds_or AgainstOrder (nat_lt p q)
  Ok (p, q)

-- the model after an edit, or the first refusal that holds
abbrev pub edited : ModelState → Edit → Result ModelState EditFault
edited m (add_option name) = do
  free ← holds_or NameTaken (not (is_some (find_option m name)))
  room ← holds_or LimitReached (nat_lt (length m.options) OPTIONS)
  Ok (with_option m name)
edited m (drop_option name) = do
  o ← found_or UnknownOption (find_option m name)
  Ok (without_option m o)
edited m (add_criterion name elements) = do
  free ← holds_or NameTaken (not (is_some (find_criterion m name)))
  apart ← holds_or NameTaken (are_apart elements)
  room ← holds_or LimitReached (nat_lt (length m.criteria) CRITERIA)
  few ← holds_or LimitReached (nat_le (length elements) LIMIT)
  Ok (with_criterion m (new_criterion name elements))
edited m (drop_criterion name) = do
  c ← found_or UnknownCriterion (find_criterion m name)
  Ok (without_criterion m c)
edited m (set_refs name good neutral) = do
  c ← found_or UnknownCriterion (find_criterion m name)
  pair ← pair_of (criterion_at m c) good neutral
  Ok (with_change m c (λ criterion. record criterion { good = pair.0; neutral = pair.1 }))
edited m (judge name x y range) = do
  c ← found_or UnknownCriterion (find_criterion m name)
  pair ← pair_of (criterion_at m c) x y
  Ok (with_change m c (λ criterion. record criterion { matrix = judged criterion.matrix pair.0 pair.1 range }))
edited m (unjudge name x y) = do
  c ← found_or UnknownCriterion (find_criterion m name)
  pair ← pair_of (criterion_at m c) x y
  Ok (with_change m c (λ criterion. record criterion { matrix = cleared criterion.matrix pair.0 pair.1 }))
edited m (perform option name element) = do
  o ← found_or UnknownOption (find_option m option)
  c ← found_or UnknownCriterion (find_criterion m name)
  e ← found_or UnknownElement (find_element (criterion_at m c) element)
  Ok (with_performance m o c e)
edited m (set_order names) = do
  order ← found_or UnknownCriterion (places_of m names)
  each ← holds_or NotPermutation (is_permutation (length m.criteria) order)
  Ok (with_order m order)
edited m (weigh x y range) = do
  pair ← weigh_pair m x y
  Ok (with_weighting m (judged m.weighting pair.0 pair.1 range))
edited m (unweigh x y) = do
  pair ← weigh_pair m x y
  Ok (with_weighting m (cleared m.weighting pair.0 pair.1))
edited m (set_reach name n) = do
  c ← found_or UnknownCriterion (find_criterion m name)
  Ok (with_change m c (λ criterion. record criterion { reach = n }))
edited m (set_matrix name matrix) =
    if bytes_eq name (codes "weighting") then Ok (with_weighting m matrix)
    else (found_or UnknownCriterion (find_criterion m name) >>= λ c. Ok (with_change m c (λ criterion. record criterion { matrix = matrix })))
edited m (add_group name parent) = do
  above ← group_named m parent
  free ← holds_or NameTaken (not (is_some (find_group m name)))
  room ← holds_or LimitReached (nat_lt (length m.groups) GROUPS)
  Ok (with_group m (record { name = name; parent = above }))
edited m (drop_group name) = do
  g ← found_or UnknownGroup (find_group m name)
  Ok (without_group m g (parent_of m.groups g))
edited m (place name group) = do
  c ← found_or UnknownCriterion (find_criterion m name)
  g ← group_named m group
  Ok (with_change m c (λ criterion. record criterion { group = g }))

-- the edits that may find no memory
abbrev pub takes_memory : Edit → Bool
takes_memory (add_option name) = true
takes_memory (drop_option name) = false
takes_memory (add_criterion name elements) = true
takes_memory (drop_criterion name) = false
takes_memory (set_refs name good neutral) = false
takes_memory (judge name x y range) = false
takes_memory (unjudge name x y) = false
takes_memory (perform option name element) = true
takes_memory (set_order names) = true
takes_memory (weigh x y range) = false
takes_memory (unweigh x y) = false
takes_memory (set_reach name n) = false
takes_memory (set_matrix name matrix) = false
takes_memory (add_group name parent) = true
takes_memory (drop_group name) = false
takes_memory (place name group) = false

-- an edit took the model from old to new with this outcome; a refused edit leaves the model as it was
abbrev pub Edits : ModelState → Edit → Result (Unit {0}) EditFault → ModelState → Type 0
Edits old edit (Ok done) new = edited old edit ≡ Ok new
Edits old edit (Err fault) new = (new ≡ old) × ((edited old edit ≡ Err fault) ⊎ ((fault ≡ NoMemory) × (takes_memory edit ≡ true)))
