-- A text that loads gives a whole model.
use Rattle.std.proofs.Common.{◌≡◌, ℕ, zero, suc, ◌+◌, ◌<◌, ◌≤◌, ◌==◌, ◌++◌, ◌&&◌, Bool, true, false, not, cond, List, [], ◌∷◌, Option, Some, None, Result, Ok, Err, is_some, length, nat_lt, nat_le, All, refl, sym, ap, subst, ◌∙◌, arith, rules, length-append, codes}
use Rattle.std.specs.List.{IsDistinct, list_any}
use Rattle.std.specs.Cmp.Lexicographic.{nat_list_eq_equiv}
use Rattle.std.specs.Str.{bytes_eq}
use Rattle.std.proofs.lemmas.Bool.Decides.{nat_tests}
use Rattle.std.proofs.lemmas.List.Elements.{All-nil, All-push}
use Rattle.std.proofs.lemmas.Map.Keys.{IsDistinct-push}
use Rattle.serde_json.specs.Data.{Data, Items, no_items, item}
use Rattle.serde_json.specs.Find.{get, get_item}
use Rattle.integers.specs.Counting.{IsOrder}
use Rattle.word_table.specs.Words.{AreApart}
use Rattle.judgement_matrix.specs.Matrix.{Judgements, IsMatrix, unjudged, judged, cell_at}
use Rattle.judgement_matrix.specs.Range.{bounds}
use Rattle.judgement_matrix.specs.declared.matrix.TheConstants.{LIMIT}
use Rattle.judgement_matrix.proofs.KeptMatrices.{IsMatrix-unjudged, IsMatrix-judged}
use Rattle.judgement_matrix.proofs.ChangeLemmas.{IsMatrix-grown}
use Rattle.model_core.specs.State.{CriterionState, ModelState, IsCriterion, empty_model, is_reserved}
use Rattle.model_core.specs.Finding.{find_option, find_criterion, find_group}
use Rattle.model_core.specs.Edits.{with_criterion, with_group, is_permutation}
use Rattle.model_core.specs.Whole.{IsWholeCriterion, IsWholeModel}
use Rattle.judgement_matrix.specs.declared.reach.TheConstants.{LEAST_REACH, MOST_REACH}
use Rattle.model_core.specs.declared.limits.TheConstants.{OPTIONS, CRITERIA, GROUPS, NEW_REACH}
use Rattle.model_core.proofs.CriterionLemmas.{IsModel-grouped_wider}
use Rattle.model_core.proofs.ModelChanges.{IsModel-with_row, IsModel-reweighed, IsModel-with_group}
use Rattle.model_core.proofs.OrderLemmas.{IsOrder-tested}
use Rattle.model_core.proofs.WholeEdits.{IsWholeModel-empty, criterion_within, group_within}
use Rattle.model_json.specs.declared.judgements.Numbers.{Numbers}
use Rattle.model_json.specs.declared.criteria.Details.{Details}
use Rattle.model_json.specs.declared.place.Place.{Place}
use Rattle.model_json.specs.declared.place.Place.TheVariants as place
use Rattle.model_json.specs.declared.fault.LoadFault.{LoadFault}
use Rattle.frac128.specs.Chain.{◌>>=◌, found_or, holds_or}
use Rattle.model_json.specs.Steps.{whole, string_at, name_at, array_at, array_or_none, object_at, each_into}
use Rattle.model_json.specs.Reading.{four, is_judgement, judgements_place, judgement_place, judgement_of, judgements_of, group_or_root, group_of, groups_in, place_among, element_of, elements_of, element_or, reach_or, criterion_keys, is_free, free_name_of, references_of, details_of, parts_of, criterion_of, row_of, with_row, option_of, rank_of, ranked_of, order_of, weighting_of, format_of, model_keys, contents_of, model_of}
use Rattle.model_json.specs.Text.{json_of, or_bad, model_or_bad, load_of}
use Rattle.model_json.proofs.OptionLemmas.{among_within, row_is}

-- ---- checks in a row

-- what is read has P
abbrev Gives : {A : Type 0} → (A → Type 0) → Result A Place → Type 0
Gives P (Ok x) = P x
Gives P (Err at) = Unit {0}

after : {A B : Type 0} (P : B → Type 0) (r : Result A Place) (f : A → Result B Place) → ((x : A) → r ≡ Ok x → Gives P (f x)) → Gives P (r >>= f)
after P (Ok x) f h = h x refl
after P (Err at) f h = tt

after_found : {A B : Type 0} (P : B → Type 0) (at : Place) (o : Option A) (f : A → Result B Place) → ((x : A) → o ≡ Some x → Gives P (f x))
    → Gives P (found_or at o >>= f)
after_found P at None f h = tt
after_found P at (Some x) f h = h x refl

after_test : {B : Type 0} (P : B → Type 0) (at : Place) (b : Bool) (f : Unit {0} → Result B Place) → (b ≡ true → Gives P (f tt)) → Gives P (holds_or at b >>= f)
after_test P at true f h = h refl
after_test P at false f h = tt

-- what was read has what it gives
read : {A : Type 0} (P : A → Type 0) (r : Result A Place) (x : A) → Gives P r → r ≡ Ok x → P x
read P r x h e = subst (Gives P) e h

-- what holds at the start and is kept by each value holds at the end, by the index
module _ {S : Type 0} (P : ℕ → S → Type 0) (step : ℕ → S → Data → Result S Place) (keeps : (i : ℕ) (s : S) (d : Data) → P i s → Gives (P (i + 1)) (step i s d)) where
  each_keeps : (values : Items) (i : ℕ) (s : S) → P i s → Gives (λ t. (k : ℕ) × P k t) (each_into step i s values)
  unfolding each_into
  each_keeps no_items i s h = (i, h)
  each_keeps (item value values) i s h =
      after (λ t. (k : ℕ) × P k t) (step i s value) (λ next. each_into step (i + 1) next values)
      (λ next e. each_keeps values (i + 1) next (read (P (i + 1)) (step i s value) next (keeps i s value h) e))

both : (a b : Bool) → (a && b) ≡ true → (a ≡ true) × (b ≡ true)
both true b h = (refl, h)
both false b h = cc

is_false : (b : Bool) → not b ≡ true → b ≡ false
is_false true h = cc
is_false false h = refl

below : (a b : ℕ) → nat_lt a b ≡ true → a < b
below a b h = grind (arith, nat_tests)

at_most : (a b : ℕ) → nat_le a b ≡ true → a ≤ b
at_most a b h = grind (arith, nat_tests)

-- ---- judgements

-- judgements of so many elements
record AreJudgements (size : ℕ) (m : Judgements) : Type 0 where
  is : IsMatrix m
  sized : m.size ≡ size

judgement_kept : (criterion : Option ℕ) (size i : ℕ) (m : Judgements) (d : Data) → AreJudgements size m
    → Gives (AreJudgements size) (judgement_of criterion i m d)
unfolding judgement_of
judgement_kept criterion size i m d h =
    after_found (AreJudgements size) (judgement_place criterion i) (four d) _ (λ numbers four_is.
    after_test (AreJudgements size) (judgement_place criterion i) (is_judgement m.size numbers) _ (λ good.
    after_test (AreJudgements size) (judgement_place criterion i) (not (cell_at m numbers.upper numbers.lower).1) _ (λ new.
    let ordered = both (nat_le numbers.least numbers.most) (nat_le numbers.most 6) (both _ _ good).1 in
    record {
      is = IsMatrix-judged m numbers.upper numbers.lower (bounds numbers.least numbers.most) h.is
          (at_most numbers.least numbers.most ordered.0, at_most numbers.most 6 ordered.1);
      sized = h.sized;
    })))

judgements_read : (criterion : Option ℕ) (size : ℕ) (value : Option Data) → 1 ≤ size → size ≤ LIMIT
    → Gives (AreJudgements size) (judgements_of criterion size value)
unfolding judgements_of
judgements_read criterion size value least most =
    after (AreJudgements size) (array_or_none (judgements_place criterion) value) _ (λ values e.
    all (each_into (judgement_of criterion) 0 (unjudged size) values)
    (each_keeps (λ i. AreJudgements size) (judgement_of criterion) (λ i m d h. judgement_kept criterion size i m d h) values 0 (unjudged size)
    (record { is = IsMatrix-unjudged size (least, most); sized = refl })))
  where
    all : (r : Result Judgements Place) → Gives (λ m. (k : ℕ) × AreJudgements size m) r → Gives (AreJudgements size) r
    all (Ok m) h = h.1
    all (Err at) h = tt

-- ---- groups

-- the root, or a group that is there
abbrev IsGroupOf : ModelState → Option ℕ → Type 0
IsGroupOf m group = (g : ℕ) → group ≡ Some g → g < length m.groups

root_is : (m : ModelState) → IsGroupOf m None
root_is m g h = cc

some_is : (m : ModelState) (k : ℕ) → k < length m.groups → IsGroupOf m (Some k)
some_is m k low g h = let same : k ≡ g = same_some k g h in subst (λ n. n < length m.groups) same low
  where
    same_some : (a b : ℕ) → Some a ≡ Some b → a ≡ b
    same_some a b e = cc

group_read : (at : Place) (m : ModelState) (value : Option Data) → Gives (IsGroupOf m) (group_or_root at m value)
group_read at m None = root_is m
group_read at m (Some d) =
    after (IsGroupOf m) (string_at at (Some d)) _ (λ name e. after_found (IsGroupOf m) at (find_group m name) _ (λ g found. some_is m g (group_within m name g found)))

-- a whole model of so many groups alone
record HasGroups (i : ℕ) (m : ModelState) : Type 0 where
  is : IsWholeModel m
  count : length m.groups ≡ i
  no_criteria : length m.criteria ≡ 0
  no_options : length m.options ≡ 0

group_kept : (i : ℕ) (m : ModelState) (d : Data) → HasGroups i m → Gives (HasGroups (i + 1)) (group_of i m d)
unfolding group_of
group_kept i m d h =
    after (HasGroups (i + 1)) (object_at (place.Group i) (codes "name" ∷ codes "parent" ∷ []) d) _ (λ plain e.
    after_test (HasGroups (i + 1)) (place.Group i) (nat_lt i GROUPS) _ (λ room.
    after (HasGroups (i + 1)) (name_at (place.GroupName i) (get (codes "name") d)) _ (λ name named.
    after_test (HasGroups (i + 1)) (place.GroupName i) (not (is_some (find_group m name))) _ (λ free.
    after (HasGroups (i + 1)) (group_or_root (place.GroupParent i) m (get (codes "parent") d)) _ (λ parent parent_is.
    let few : length m.groups < GROUPS = subst (λ n. n < GROUPS) (sym h.count) (below i GROUPS room) in
    record {
      is = record {
        keeps = IsModel-with_group m (record { name = name; parent = parent }) h.is.keeps few
            (read (IsGroupOf m) (group_or_root (place.GroupParent i) m (get (codes "parent") d)) parent
            (group_read (place.GroupParent i) m (get (codes "parent") d)) parent_is);
        criteria = h.is.criteria;
        weighting = h.is.weighting;
      };
      count = omega (arith, length-append m.groups (record { name = name; parent = parent } ∷ []), h.count);
      no_criteria = h.no_criteria;
      no_options = h.no_options;
    })))))

-- ---- criteria

-- different elements, as many as values before this index, and no more than there may be
record AreElements (j : ℕ) (elements : List (List ℕ)) : Type 0 where
  count : length elements ≡ j
  few : j ≤ LIMIT
  apart : AreApart elements

element_kept : (i j : ℕ) (elements : List (List ℕ)) (d : Data) → AreElements j elements → Gives (AreElements (j + 1)) (element_of i j elements d)
unfolding element_of
element_kept i j elements d h =
    after (AreElements (j + 1)) (name_at (place.Element i j) (Some d)) _ (λ name named.
    after_test (AreElements (j + 1)) (place.Element i j) (not (list_any (bytes_eq name) elements)) _ (λ free.
    after_test (AreElements (j + 1)) (place.Element i j) (nat_lt j LIMIT) _ (λ room.
    let low : j < LIMIT = below j LIMIT room in
    record {
      count = omega (arith, length-append elements (name ∷ []), h.count);
      few = omega (arith, low);
      apart = IsDistinct-push nat_list_eq_equiv elements name h.apart (is_false (list_any (bytes_eq name) elements) free);
    })))

-- two of them at least
record AreSeveral (elements : List (List ℕ)) : Type 0 where
  several : 2 ≤ length elements
  few : length elements ≤ LIMIT
  apart : AreApart elements

no_elements : AreElements 0 []
unfolding IsDistinct
no_elements = record { count = refl; few = search rules; apart = tt }

-- behind the first two values
record AreMore (j : ℕ) (elements : List (List ℕ)) : Type 0 where
  least : 2 ≤ j
  are : AreElements j elements

more_kept : (i j : ℕ) (elements : List (List ℕ)) (d : Data) → AreMore j elements → Gives (AreMore (j + 1)) (element_of i j elements d)
more_kept i j elements d h = all (element_of i j elements d) (element_kept i j elements d h.are)
  where
    least : 2 ≤ j + 1
    least = let two : 2 ≤ j = h.least in omega (arith, two)

    all : (r : Result (List (List ℕ)) Place) → Gives (AreElements (j + 1)) r → Gives (AreMore (j + 1)) r
    all (Ok es) k = record { least = least; are = k }
    all (Err at) k = tt

elements_from : (i : ℕ) (values : Items) → is_some (get_item 1 values) ≡ true → Gives AreSeveral (each_into (element_of i) 0 [] values)
unfolding each_into
elements_from i no_items several = cc
elements_from i (item a no_items) several = cc
elements_from i (item a (item b values)) several =
    after AreSeveral (element_of i 0 [] a) _ (λ one one_is.
    after AreSeveral (element_of i 1 one b) _ (λ two two_is.
    all (each_into (element_of i) 2 two values) (each_keeps AreMore (element_of i) (more_kept i) values 2 two (record {
      least = omega arith;
      are = read (AreElements 2) (element_of i 1 one b) two (element_kept i 1 one b (read (AreElements 1) (element_of i 0 [] a) one
          (element_kept i 0 [] a no_elements) one_is)) two_is;
    }))))
  where
    all : (r : Result (List (List ℕ)) Place) → Gives (λ es. (k : ℕ) × AreMore k es) r → Gives AreSeveral r
    all (Ok es) h = record {
      several = subst (λ n. 2 ≤ n) (sym h.1.are.count) h.1.least;
      few = subst (λ n. n ≤ LIMIT) (sym h.1.are.count) h.1.are.few;
      apart = h.1.are.apart;
    }
    all (Err at) h = tt

elements_read : (i : ℕ) (value : Option Data) → Gives AreSeveral (elements_of i value)
unfolding elements_of
elements_read i value =
    after AreSeveral (array_at (place.Elements i) value) _ (λ values e.
    after_test AreSeveral (place.Elements i) (is_some (get_item 1 values)) _ (λ several. elements_from i values several))

-- the place of an element
abbrev IsPlaceIn : List (List ℕ) → ℕ → Type 0
IsPlaceIn elements e = (1 ≤ e) × (e ≤ length elements)

element_read : (at : Place) (elements : List (List ℕ)) (absent : ℕ) (value : Option Data) → IsPlaceIn elements absent
    → Gives (IsPlaceIn elements) (element_or at elements absent value)
element_read at elements absent None h = h
element_read at elements absent (Some d) h =
    after (IsPlaceIn elements) (string_at at (Some d)) _ (λ name e. found (place_among elements name) (λ k is. among_within elements name k is))
  where
    found : (o : Option ℕ) → ((k : ℕ) → o ≡ Some k → IsPlaceIn elements k) → Gives (IsPlaceIn elements) (found_or at o)
    found None h = tt
    found (Some k) h = h k refl

-- good above neutral
abbrev AreReferencesIn : List (List ℕ) → ℕ × ℕ → Type 0
AreReferencesIn elements refs = (1 ≤ refs.0) × (refs.0 < refs.1) × (refs.1 ≤ length elements)

references_read : (i : ℕ) (elements : List (List ℕ)) (d : Data) → 2 ≤ length elements → Gives (AreReferencesIn elements) (references_of i elements d)
unfolding references_of
references_read i elements d several =
    after (AreReferencesIn elements) (element_or (place.Good i) elements 1 (get (codes "good") d)) _ (λ good good_is.
    after (AreReferencesIn elements) (element_or (place.Neutral i) elements (length elements) (get (codes "neutral") d)) _ (λ neutral neutral_is.
    after_test (AreReferencesIn elements) (place.Neutral i) (nat_lt good neutral) _ (λ above.
    let first = read (IsPlaceIn elements) (element_or (place.Good i) elements 1 (get (codes "good") d)) good
    (element_read (place.Good i) elements 1 (get (codes "good") d) (omega arith, omega (arith, several))) good_is in
    let second = read (IsPlaceIn elements) (element_or (place.Neutral i) elements (length elements) (get (codes "neutral") d)) neutral
    (element_read (place.Neutral i) elements (length elements) (get (codes "neutral") d) (omega (arith, several), omega arith)) neutral_is in
    (first.0, below good neutral above, second.1))))

abbrev IsReach : ℕ → Type 0
IsReach reach = (LEAST_REACH ≤ reach) × (reach ≤ MOST_REACH)

reach_read : (at : Place) (value : Option Data) → Gives IsReach (reach_or at value)
reach_read at None = (search rules, search rules)
reach_read at (Some d) =
    after_found IsReach at (whole (Some d)) _ (λ reach e.
    after_test IsReach at (nat_le LEAST_REACH reach && nat_le reach MOST_REACH) _ (λ within.
    let parts = both (nat_le LEAST_REACH reach) (nat_le reach MOST_REACH) within in
    (at_most LEAST_REACH reach parts.0, at_most reach MOST_REACH parts.1)))

name_read : (i : ℕ) (m : ModelState) (value : Option Data) → Gives (λ name. is_reserved name ≡ false) (free_name_of i m value)
unfolding free_name_of is_free
name_read i m value =
    after (λ name. is_reserved name ≡ false) (name_at (place.CriterionName i) value) _ (λ name named.
    after_test (λ name. is_reserved name ≡ false) (place.CriterionName i) (not (is_reserved name) && not (is_some (find_criterion m name))) _ (λ free.
    is_false (is_reserved name) (both (not (is_reserved name)) (not (is_some (find_criterion m name))) free).0))

-- what stands beside the name and the elements
record AreDetails (m : ModelState) (elements : List (List ℕ)) (details : Details) : Type 0 where
  refs : AreReferencesIn elements (details.good, details.neutral)
  judgements : AreJudgements (length elements) details.matrix
  reach : IsReach details.reach
  group : IsGroupOf m details.group

details_read : (i : ℕ) (m : ModelState) (elements : List (List ℕ)) (d : Data) → AreSeveral elements
    → Gives (AreDetails m elements) (details_of i m elements d)
unfolding details_of
details_read i m elements d h =
    after (AreDetails m elements) (references_of i elements d) _ (λ refs refs_is.
    after (AreDetails m elements) (judgements_of (Some i) (length elements) (get (codes "judgements") d)) _ (λ matrix matrix_is.
    after (AreDetails m elements) (reach_or (place.Reach i) (get (codes "reach") d)) _ (λ reach reach_is.
    after (AreDetails m elements) (group_or_root (place.CriterionGroup i) m (get (codes "group") d)) _ (λ group group_is.
    let several : 2 ≤ length elements = h.several in
    record {
      refs = read (AreReferencesIn elements) (references_of i elements d) refs (references_read i elements d h.several) refs_is;
      judgements = read (AreJudgements (length elements)) (judgements_of (Some i) (length elements) (get (codes "judgements") d)) matrix
          (judgements_read (Some i) (length elements) (get (codes "judgements") d) (omega (arith, several)) h.few) matrix_is;
      reach = read IsReach (reach_or (place.Reach i) (get (codes "reach") d)) reach (reach_read (place.Reach i) (get (codes "reach") d)) reach_is;
      group = read (IsGroupOf m) (group_or_root (place.CriterionGroup i) m (get (codes "group") d)) group
          (group_read (place.CriterionGroup i) m (get (codes "group") d)) group_is;
    }))))

-- a whole criterion for which there is room
record IsNext (i : ℕ) (m : ModelState) (c : CriterionState) : Type 0 where
  is : IsWholeCriterion c
  group : IsGroupOf m c.group
  room : i < CRITERIA

parts_read : (grouped : Bool) (i : ℕ) (m : ModelState) (d : Data) → Gives (IsNext i m) (parts_of grouped i m d)
unfolding parts_of
parts_read grouped i m d =
    after (IsNext i m) (object_at (place.Criterion i) (criterion_keys grouped) d) _ (λ plain e.
    after_test (IsNext i m) (place.Criterion i) (nat_lt i CRITERIA) _ (λ room.
    after (IsNext i m) (free_name_of i m (get (codes "name") d)) _ (λ name name_is.
    after (IsNext i m) (elements_of i (get (codes "elements") d)) _ (λ elements elements_are.
    after (IsNext i m) (details_of i m elements d) _ (λ details details_are.
    let several = read AreSeveral (elements_of i (get (codes "elements") d)) elements (elements_read i (get (codes "elements") d)) elements_are in
    let h = read (AreDetails m elements) (details_of i m elements d) details (details_read i m elements d several) details_are in
    record {
      is = record {
        keeps = record {
          least = several.several;
          most = several.few;
          apart = several.apart;
          good_is = h.refs.0;
          above = h.refs.1;
          neutral_is = h.refs.2;
          size = h.judgements.sized;
          least_reach = h.reach.0;
          most_reach = h.reach.1;
          free_name = read (λ name. is_reserved name ≡ false) (free_name_of i m (get (codes "name") d)) name (name_read i m (get (codes "name") d)) name_is;
        };
        matrix = h.judgements.is;
      };
      group = h.group;
      room = below i CRITERIA room;
    })))))

-- a whole model of so many criteria and no option
record HasCriteria (i : ℕ) (m : ModelState) : Type 0 where
  is : IsWholeModel m
  count : length m.criteria ≡ i
  no_options : length m.options ≡ 0

criterion_kept : (grouped : Bool) (i : ℕ) (m : ModelState) (d : Data) → HasCriteria i m → Gives (HasCriteria (i + 1)) (criterion_of grouped i m d)
unfolding criterion_of
criterion_kept grouped i m d h =
    after (HasCriteria (i + 1)) (parts_of grouped i m d) _ (λ c c_is.
    let next = read (IsNext i m) (parts_of grouped i m d) c (parts_read grouped i m d) c_is in
    let room : length m.criteria < CRITERIA = subst (λ n. n < CRITERIA) (sym h.count) next.room in
    let size : m.weighting.size ≡ length m.criteria + 1 = h.is.keeps.size in
    record {
      is = record {
        keeps = IsModel-grouped_wider m c h.is.keeps room next.group;
        criteria = All-push IsWholeCriterion m.criteria c h.is.criteria next.is;
        weighting = IsMatrix-grown m.weighting h.is.weighting (omega (arith, size, room));
      };
      count = omega (arith, length-append m.criteria (c ∷ []), h.count);
      no_options = h.no_options;
    })

-- ---- options

record HasOptions (i : ℕ) (m : ModelState) : Type 0 where
  is : IsWholeModel m
  count : length m.options ≡ i

option_kept : (i : ℕ) (m : ModelState) (d : Data) → HasOptions i m → Gives (HasOptions (i + 1)) (option_of i m d)
unfolding option_of
option_kept i m d h =
    after (HasOptions (i + 1)) (object_at (place.OptionAt i) (codes "name" ∷ codes "performances" ∷ []) d) _ (λ plain e.
    after_test (HasOptions (i + 1)) (place.OptionAt i) (nat_lt i OPTIONS) _ (λ room.
    after (HasOptions (i + 1)) (name_at (place.OptionName i) (get (codes "name") d)) _ (λ name named.
    after_test (HasOptions (i + 1)) (place.OptionName i) (not (is_some (find_option m name))) _ (λ free.
    after (HasOptions (i + 1)) (row_of (place.Performances i) m.criteria (get (codes "performances") d)) _ (λ row e.
    let few : length m.options < OPTIONS = subst (λ n. n < OPTIONS) (sym h.count) (below i OPTIONS room) in
    record {
      is = record {
        keeps = IsModel-with_row m name row h.is.keeps few (row_is (place.Performances i) m.criteria (get (codes "performances") d) row e);
        criteria = h.is.criteria;
        weighting = h.is.weighting;
      };
      count = omega (arith, length-append m.options (name ∷ []), h.count);
    })))))

-- ---- the weighting

abbrev ArePlacesOf : ModelState → List ℕ → Type 0
ArePlacesOf m order = All (λ c. c < length m.criteria) order

rank_read : (m : ModelState) (d : Data) → Gives (λ c. c < length m.criteria) (rank_of m d)
rank_read m d =
    after (λ c. c < length m.criteria) (string_at place.Order (Some d)) _ (λ name e. found (find_criterion m name) (λ c at. criterion_within m name c at))
  where
    found : (o : Option ℕ) → ((c : ℕ) → o ≡ Some c → c < length m.criteria) → Gives (λ c. c < length m.criteria) (found_or place.Order o)
    found None h = tt
    found (Some c) h = h c refl

ranked_kept : (m : ModelState) (i : ℕ) (order : List ℕ) (d : Data) → ArePlacesOf m order → Gives (ArePlacesOf m) (ranked_of m i order d)
unfolding ranked_of
ranked_kept m i order d h =
    after (ArePlacesOf m) (rank_of m d) _ (λ c e.
    All-push (λ k. k < length m.criteria) order c h (read (λ k. k < length m.criteria) (rank_of m d) c (rank_read m d) e))

order_read : (m : ModelState) (value : Option Data) → IsOrder (length m.criteria) m.order → Gives (IsOrder (length m.criteria)) (order_of m value)
unfolding order_of
order_read m None h = h
order_read m (Some d) h =
    after (IsOrder (length m.criteria)) (array_at place.Order (Some d)) _ (λ names e.
    after (IsOrder (length m.criteria)) (each_into (ranked_of m) 0 [] names) _ (λ order order_is.
    after_test (IsOrder (length m.criteria)) place.Order (is_permutation (length m.criteria) order) _ (λ each.
    let within = read (λ o. (k : ℕ) × ArePlacesOf m o) (each_into (ranked_of m) 0 [] names) order
    (each_keeps (λ i. ArePlacesOf m) (ranked_of m) (λ i o d h. ranked_kept m i o d h) names 0 [] (All-nil (λ c. c < length m.criteria))) order_is in
    IsOrder-tested (length m.criteria) order within.1 each)))

weighting_read : (m : ModelState) (value : Option Data) → IsWholeModel m → Gives IsWholeModel (weighting_of m value)
unfolding weighting_of
weighting_read m None is = is
weighting_read m (Some d) is =
    after IsWholeModel (object_at place.Weighting (codes "judgements" ∷ codes "order" ∷ []) d) _ (λ plain e.
    after IsWholeModel (order_of m (get (codes "order") d)) _ (λ order order_is.
    after IsWholeModel (judgements_of None (length m.criteria + 1) (get (codes "judgements") d)) _ (λ swings swings_are.
    let few : length m.criteria ≤ CRITERIA = is.keeps.few_criteria in
    let judged_so = read (AreJudgements (length m.criteria + 1)) (judgements_of None (length m.criteria + 1) (get (codes "judgements") d)) swings
    (judgements_read None (length m.criteria + 1) (get (codes "judgements") d) (omega arith) (omega (arith, few))) swings_are in
    record {
      keeps = IsModel-reweighed m order swings is.keeps
          (read (IsOrder (length m.criteria)) (order_of m (get (codes "order") d)) order (order_read m (get (codes "order") d) is.keeps.order_is) order_is)
          judged_so.sized;
      criteria = is.criteria;
      weighting = judged_so.is;
    })))

-- ---- the whole

contents_read : (grouped : Bool) (m : ModelState) (d : Data) → HasCriteria 0 m → Gives IsWholeModel (contents_of grouped m d)
unfolding contents_of
contents_read grouped m d h =
    after IsWholeModel (array_at place.Criteria (get (codes "criteria") d)) _ (λ criteria e.
    after IsWholeModel (each_into (criterion_of grouped) 0 m criteria) _ (λ with_criteria with_is.
    after IsWholeModel (array_or_none place.Options (get (codes "options") d)) _ (λ options f.
    after IsWholeModel (each_into option_of 0 with_criteria options) _ (λ with_options options_are.
    let one = read (λ n. (k : ℕ) × HasCriteria k n) (each_into (criterion_of grouped) 0 m criteria) with_criteria
    (each_keeps HasCriteria (criterion_of grouped) (criterion_kept grouped) criteria 0 m h) with_is in
    let two = read (λ n. (k : ℕ) × HasOptions k n) (each_into option_of 0 with_criteria options) with_options
    (each_keeps HasOptions option_of option_kept options 0 with_criteria (record { is = one.1.is; count = one.1.no_options })) options_are in
    weighting_read with_options (get (codes "weighting") d) two.1.is))))

model_read : (d : Data) → Gives IsWholeModel (model_of d)
unfolding model_of
model_read d =
    after IsWholeModel (object_at place.Whole model_keys d) _ (λ plain e.
    after IsWholeModel (format_of (get (codes "macbeth") d)) _ (λ grouped f.
    after IsWholeModel (groups_in grouped (get (codes "groups") d)) _ (λ groups g.
    after IsWholeModel (each_into group_of 0 empty_model groups) _ (λ with_groups groups_are.
    let one = read (λ n. (k : ℕ) × HasGroups k n) (each_into group_of 0 empty_model groups) with_groups
    (each_keeps HasGroups group_of group_kept groups 0 empty_model
    (record { is = IsWholeModel-empty; count = refl; no_criteria = refl; no_options = refl })) groups_are in
    contents_read grouped with_groups d (record { is = one.1.is; count = one.1.no_criteria; no_options = one.1.no_options })))))

-- a text that loads
pub loads_whole : (bytes : List ℕ) (m : ModelState) → load_of bytes ≡ Ok m → IsWholeModel m
unfolding load_of
loads_whole bytes m e = by_value (json_of bytes) e
  where
    by_model : (r : Result ModelState Place) → Gives IsWholeModel r → or_bad r ≡ Ok m → IsWholeModel m
    by_model (Ok n) h k = let same : n ≡ m = same_model n k in subst IsWholeModel same h
      where
        same_model : (n : ModelState) → or_bad (Ok n) ≡ Ok m → n ≡ m
        same_model n k = cc
    by_model (Err at) h k = cc

    by_value : (value : Option Data) → model_or_bad value ≡ Ok m → IsWholeModel m
    by_value None k = cc
    by_value (Some d) k = by_model (model_of d) (model_read d) k
