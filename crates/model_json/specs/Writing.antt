-- The JSON value of a model, in format 2, and its text.
use Rattle.std.specs.Prelude.{ℕ, ◌-◌, List, [], ◌∷◌, map, Option, Some, None, slice_index_or, codes, if◌then◌else◌}
use Rattle.std.specs.List.{flat_map}
use Rattle.json.specs.Layout.{pretty}
use Rattle.json.specs.Tree.{json_tokens}
use Rattle.serde_json.specs.Data.{Data, number, unsigned, string, array, object, Members, member, no_members, put}
use Rattle.serde_json.specs.View.{items_of}
use Rattle.serde_json.specs.Written.{outline}
use Rattle.judgement_matrix.specs.Range.{Bounds}
use Rattle.judgement_matrix.specs.Matrix.{Judgements, pairs, cell_at}
use Rattle.model_core.specs.State.{CriterionState, GroupState, ModelState, no_criterion}

abbrev pub whole_number : ℕ → Data
whole_number n = number (unsigned n)

abbrev pub array_of : List Data → Data
array_of values = array (items_of values)

-- ---- judgements

-- a pair and its range, where it is judged
abbrev pub judged_at : Judgements → ℕ × ℕ → List (ℕ × ℕ × Bounds)
judged_at m pair = if (cell_at m pair.0 pair.1).1 then (pair.0, pair.1, (cell_at m pair.0 pair.1).0) ∷ [] else []

-- the judged pairs in pair order, with their ranges
abbrev pub judged_pairs : Judgements → List (ℕ × ℕ × Bounds)
judged_pairs m = flat_map (judged_at m) (pairs m.size)

-- the places of a pair, from 1, and its least and greatest category
abbrev pub judgement_data : ℕ × ℕ × Bounds → Data
judgement_data (p, q, range) =
    array_of (whole_number p ∷ whole_number q ∷ whole_number range.lo ∷ whole_number range.hi ∷ [])

unfoldable pub judgements_data : Judgements → Data
judgements_data m = array_of (map judgement_data (judged_pairs m))

-- ---- groups and criteria

abbrev pub group_name : ModelState → ℕ → List ℕ
group_name m g = (slice_index_or m.groups g (record { name = []; parent = None })).name

-- a key with the name of a group, none at the root
abbrev pub with_group_key : ModelState → List ℕ → Option ℕ → Members → Members
with_group_key m key None members = members
with_group_key m key (Some g) members = member key (string (group_name m g)) members

unfoldable pub group_data : ModelState → GroupState → Data
group_data m group = object (member (codes "name") (string group.name)
    (with_group_key m (codes "parent") group.parent no_members))

-- the name of an element, which counts from 1
abbrev pub element_name : CriterionState → ℕ → List ℕ
element_name c at = slice_index_or c.elements (at - 1) []

-- the members of a criterion with these elements and judgements, and what stands for its group
abbrev pub criterion_members : CriterionState → Data → (Members → Members) → Data → Members
criterion_members c elements with_group judgements =
    member (codes "elements") elements
    (member (codes "good") (string (element_name c c.good))
    (with_group
    (member (codes "judgements") judgements
    (member (codes "name") (string c.name)
    (member (codes "neutral") (string (element_name c c.neutral))
    (member (codes "reach") (whole_number c.reach) no_members))))))

unfoldable pub criterion_data : ModelState → CriterionState → Data
criterion_data m c =
    object (criterion_members c (array_of (map string c.elements)) (with_group_key m (codes "group") c.group)
    (judgements_data c.matrix))

-- ---- options

-- the element at a criterion's name, where the option performs on it
abbrev pub with_performance_key : CriterionState → Option ℕ → Members → Members
with_performance_key c None members = members
with_performance_key c (Some e) members = put c.name (string (element_name c e)) members

-- the performances of an option, keys in the order of their bytes
unfoldable pub performance_members : List CriterionState → List (Option ℕ) → Members → Members
performance_members [] row members = members
performance_members (c ∷ cs) [] members = members
performance_members (c ∷ cs) (performance ∷ row) members =
    performance_members cs row (with_performance_key c performance members)

unfoldable pub option_data : ModelState → List ℕ × List (Option ℕ) → Data
option_data m option =
    object (member (codes "name") (string option.0)
    (member (codes "performances") (object (performance_members m.criteria option.1 no_members)) no_members))

-- each option with its performances
abbrev pub options_with_rows : List (List ℕ) → List (List (Option ℕ)) → List (List ℕ × List (Option ℕ))
options_with_rows [] rows = []
options_with_rows (name ∷ names) [] = []
options_with_rows (name ∷ names) (row ∷ rows) = (name, row) ∷ options_with_rows names rows

-- ---- the whole

abbrev pub criterion_name : ModelState → ℕ → List ℕ
criterion_name m c = (slice_index_or m.criteria c no_criterion).name

unfoldable pub weighting_data : ModelState → Data
weighting_data m =
    object (member (codes "judgements") (judgements_data m.weighting)
    (member (codes "order") (array_of (map (λ c. string (criterion_name m c)) m.order)) no_members))

unfoldable pub model_data : ModelState → Data
model_data m =
    object (member (codes "criteria") (array_of (map (criterion_data m) m.criteria))
    (member (codes "groups") (array_of (map (group_data m) m.groups))
    (member (codes "macbeth") (whole_number 2)
    (member (codes "options") (array_of (map (option_data m) (options_with_rows m.options m.performances)))
    (member (codes "weighting") (weighting_data m) no_members)))))

-- the value in the pretty layout of `serde_json`
unfoldable pub dump_text : ModelState → List ℕ
dump_text m = pretty (json_tokens (outline (model_data m)))
