-- Criteria that were written are read as the same criteria.
use Rattle.std.proofs.Common.{◌≡◌, ℕ, zero, suc, ◌+◌, ◌<◌, ◌≤◌, arith, get_or, Bool, true, false, List, [], ◌∷◌, ◌++◌, length, map, replicate, nat_lt, nat_le, is_some, Option, None, Some, option_map, Ok, refl, sym, ap, ap₂, subst, ◌∙◌, codes}
use Rattle.std.specs.Prelude.{slice_index_or}
use Rattle.std.specs.List.{AllByRecursion, range_with_len, list_any}
use Rattle.std.specs.Str.{bytes_eq}
use Rattle.std.proofs.Math.Seq.{get_or-append_seam}
use Rattle.std.proofs.lemmas.Bool.Decides.{nat_tests}
use Rattle.std.proofs.lemmas.List.{length-append}
use Rattle.std.proofs.lemmas.List.Elements.{recursion_from_All}
use Rattle.serde_json.specs.Data.{Data, string, object}
use Rattle.serde_json.specs.Find.{at}
use Rattle.serde_json.specs.View.{items_of}
use Rattle.word_table.specs.Words.{AreApart}
use Rattle.judgement_matrix.specs.Range.{Bounds, full}
use Rattle.judgement_matrix.specs.Matrix.{pairs, unjudged}
use Rattle.judgement_matrix.specs.Matrix.{place as place_of_pair}
use Rattle.judgement_matrix.specs.Change.{grown, grown_cell, grown_from, old_cell}
use Rattle.judgement_matrix.specs.declared.matrix.TheConstants.{LIMIT}
use Rattle.judgement_matrix.proofs.PlaceLemmas.{range-more}
use Rattle.judgement_matrix.proofs.EveryLemmas.{every-append_right}
use Rattle.model_core.specs.Names.{is_name}
use Rattle.model_core.specs.Lists.{AreNamedApart, find}
use Rattle.model_core.specs.State.{CriterionState, ModelState, IsCriterion, is_reserved, no_criterion}
use Rattle.model_core.specs.Edits.{with_criterion}
use Rattle.judgement_matrix.specs.declared.reach.TheConstants.{LEAST_REACH, MOST_REACH}
use Rattle.model_core.specs.declared.limits.TheConstants.{CRITERIA}
use Rattle.model_json.specs.declared.place.Place.{Place}
use Rattle.model_json.specs.declared.place.Place.TheVariants as place
use Rattle.model_json.specs.Steps.{each_into}
use Rattle.model_json.specs.Reading.{place_among, group_or_root, element_of, elements_of, is_free, free_name_of, references_of, reach_or, judgements_of, details_of, parts_of, criterion_of}
use Rattle.model_json.specs.Writing.{group_name, with_group_key, element_name, whole_number, array_of, criterion_members, judgements_data, criterion_data}
use Rattle.model_json.specs.Kept.{IsNamed, IsNamedCriterion}
use Rattle.model_json.proofs.EachAgain.{each_again}
use Rattle.model_json.proofs.NamesAgain.{name_again, new_name, new_word, place_again, found_there}
use Rattle.model_json.proofs.JudgementsAgain.{judgements_again}
use Rattle.model_json.proofs.GroupsAgain.{no_group, found_group}

-- ---- what is not judged stays so where a criterion comes

same_at : {X : Type 0} (x : X) (n k : ℕ) → get_or (replicate n x) k x ≡ x
same_at x zero k = refl
same_at x (suc n) zero = refl
same_at x (suc n) (suc k) = same_at x n k

abbrev unjudged_cell : Bounds × Bool
unjudged_cell = (full, false)

old_unjudged : (n : ℕ) (p q : Option ℕ) → old_cell (unjudged n) p q ≡ unjudged_cell
old_unjudged n None q = refl
old_unjudged n (Some p) None = refl
old_unjudged n (Some p) (Some q) = same_at unjudged_cell (length (pairs n)) (place_of_pair n p q)

all_unjudged : (n : ℕ) (ps : List (ℕ × ℕ)) → map (grown_cell (unjudged n)) ps ≡ replicate (length ps) unjudged_cell
all_unjudged n [] = refl
all_unjudged n (pair ∷ ps) = ap₂ (λ c cs. c ∷ cs) (old_unjudged n (grown_from n pair.0) (grown_from n pair.1)) (all_unjudged n ps)

pub grown_unjudged : (n : ℕ) → grown (unjudged n) ≡ unjudged (n + 1)
grown_unjudged n = ap (λ cells. record { size = n + 1; cells = cells }) (all_unjudged n (pairs (n + 1)))

-- ---- the parts

element_again : (i : ℕ) (all : List (List ℕ)) → length all ≤ LIMIT → AreApart all → AllByRecursion IsNamed all
    → (seen : List (List ℕ)) (x : List ℕ) (rest : List (List ℕ)) → seen ++ x ∷ rest ≡ all
    → element_of i (length seen) seen (string x) ≡ Ok (seen ++ x ∷ [])
unfolding element_of
element_again i all few apart named seen x rest e =
    let room : nat_lt (length seen) LIMIT ≡ true = let size = ap length (sym e) ∙ length-append seen (x ∷ rest) in grind (arith, nat_tests) in
    let name : is_name x ≡ true = (every-append_right IsNamed seen (x ∷ rest) (subst (AllByRecursion IsNamed) (sym e) named)).0 in
    let new : list_any (bytes_eq x) seen ≡ false = new_word seen x rest (subst AreApart (sym e) apart) in
    rw (name_again (place.Element i (length seen)) x name, new, room) refl

several : (names : List (List ℕ)) → 2 ≤ length names → is_some (at 1 (array_of (map string names))) ≡ true
several [] h = absurd (omega arith)
several (x ∷ []) h = absurd (omega arith)
several (x ∷ y ∷ names) h = refl

elements_again : (i : ℕ) (names : List (List ℕ)) → 2 ≤ length names → length names ≤ LIMIT → AreApart names → AllByRecursion IsNamed names
    → elements_of i (Some (array_of (map string names))) ≡ Ok names
unfolding elements_of
elements_again i names least most apart named = rw (several names least)
    (each_again (element_of i) string (λ xs. xs) names (element_again i names most apart named) [] names refl)

-- the value of a criterion in this group
abbrev data_in : ModelState → CriterionState → Option ℕ → Data
data_in m c group = object (criterion_members c (array_of (map string c.elements)) (with_group_key m (codes "group") group) (judgements_data c.matrix))

references_in : (i : ℕ) (m : ModelState) (c : CriterionState) (group : Option ℕ) → place_among c.elements (element_name c c.good) ≡ Some c.good
    → place_among c.elements (element_name c c.neutral) ≡ Some c.neutral → nat_lt c.good c.neutral ≡ true → references_of i c.elements (data_in m c group) ≡ Ok
    (c.good, c.neutral)
unfolding references_of
references_in i m c None good neutral above = rw (good, neutral, above) refl
references_in i m c (Some g) good neutral above = rw (good, neutral, above) refl

references_again : (i : ℕ) (m : ModelState) (c : CriterionState) (group : Option ℕ) → IsCriterion c → references_of i c.elements (data_in m c group) ≡ Ok
    (c.good, c.neutral)
references_again i m c group is = references_in i m c group good neutral above
  where
    good : place_among c.elements (element_name c c.good) ≡ Some c.good
    good = place_again c.elements c.good is.apart is.good_is (omega (arith, is.above, is.neutral_is))

    neutral : place_among c.elements (element_name c c.neutral) ≡ Some c.neutral
    neutral = place_again c.elements c.neutral is.apart (omega (arith, is.above)) is.neutral_is

    above : nat_lt c.good c.neutral ≡ true
    above = let h : c.good < c.neutral = is.above in grind (arith, nat_tests)

reach_again : (at_place : Place) (n : ℕ) → LEAST_REACH ≤ n → n ≤ MOST_REACH → reach_or at_place (Some (whole_number n)) ≡ Ok n
reach_again at_place n least most =
    let low : nat_le LEAST_REACH n ≡ true = grind (arith, nat_tests) in
    let high : nat_le n MOST_REACH ≡ true = grind (arith, nat_tests) in
    rw (low, high) refl

free_name_again : (i : ℕ) (before : ModelState) (name : List ℕ) → is_name name ≡ true → is_reserved name ≡ false
    → find (λ c. c.name) before.criteria name ≡ None
    → free_name_of i before (Some (string name)) ≡ Ok name
unfolding free_name_of is_free
free_name_again i before name valid free new = rw (name_again (place.CriterionName i) name valid, free, new) refl

-- ---- a criterion

module _ (m before : ModelState) (i : ℕ) (c : CriterionState) where
  parts_in : (group : Option ℕ) → group_or_root (place.CriterionGroup i) before (option_map (λ g. string (group_name m g)) group) ≡ Ok group
      → nat_lt i CRITERIA ≡ true → free_name_of i before (Some (string c.name)) ≡ Ok c.name
      → elements_of i (Some (array_of (map string c.elements))) ≡ Ok c.elements
      → references_of i c.elements (data_in m c group) ≡ Ok (c.good, c.neutral)
      → judgements_of (Some i) (length c.elements) (Some (judgements_data c.matrix)) ≡ Ok c.matrix
      → reach_or (place.Reach i) (Some (whole_number c.reach)) ≡ Ok c.reach
      → parts_of true i before (data_in m c group) ≡ Ok (record c { group = group })
  unfolding parts_of details_of
  parts_in None above room name elements refs matrix reach = rw (room, name, elements, refs, matrix, reach) refl
  parts_in (Some g) above room name elements refs matrix reach = rw (room, name, elements, refs, matrix, reach, above) refl

  parts_again : (group : Option ℕ) → IsNamedCriterion c → nat_lt i CRITERIA ≡ true → find (λ x. x.name) before.criteria c.name ≡ None
      → group_or_root (place.CriterionGroup i) before (option_map (λ g. string (group_name m g)) group) ≡ Ok group
      → parts_of true i before (data_in m c group) ≡ Ok (record c { group = group })
  parts_again group is room new above = parts_in group above room
      (free_name_again i before c.name is.named is.keeps.free_name new)
      (elements_again i c.elements is.keeps.least is.keeps.most is.keeps.apart (recursion_from_All IsNamed c.elements is.elements))
      (references_again i m c group is.keeps)
      (judgements_again (Some i) (length c.elements) c.matrix is.matrix is.keeps.size)
      (reach_again (place.Reach i) c.reach is.keeps.least_reach is.keeps.most_reach)

module _ (m : ModelState) (few : length m.criteria ≤ CRITERIA) (apart : AreNamedApart (λ c. c.name) m.criteria)
    (named : AllByRecursion IsNamedCriterion m.criteria)
    (groups_apart : AreNamedApart (λ g. g.name) m.groups)
    (placed : (c g : ℕ) → (slice_index_or m.criteria c no_criterion).group ≡ Some g → g < length m.groups) where
  -- the model of which the groups and these criteria were read
  abbrev pub with_criteria : List CriterionState → ModelState
  with_criteria cs = record {
    options = [];
    criteria = cs;
    groups = m.groups;
    performances = [];
    order = range_with_len 0 (length cs);
    weighting = unjudged (length cs + 1);
  }

  one_more : (seen : List CriterionState) (c : CriterionState) → with_criterion (with_criteria seen) c ≡ with_criteria (seen ++ c ∷ [])
  one_more seen c =
      let size : length (seen ++ c ∷ []) ≡ suc (length seen) = omega (arith, length-append seen (c ∷ [])) in
      let order : range_with_len 0 (length seen) ++ length seen ∷ [] ≡ range_with_len 0 (length (seen ++ c ∷ [])) =
      sym (ap (range_with_len 0) size ∙ range-more 0 (length seen) ∙ ap (λ n. range_with_len 0 (length seen) ++ n ∷ []) (omega arith)) in
      let weighting : grown (unjudged (length seen + 1)) ≡ unjudged (length (seen ++ c ∷ []) + 1) = grown_unjudged (length seen + 1)
      ∙ ap unjudged (omega (arith, size)) in
      λ i. record { options = []; criteria = seen ++ c ∷ []; groups = m.groups; performances = []; order = order i; weighting = weighting i }

  group_found : (at_place : Place) (before : ModelState) (group : Option ℕ) → before.groups ≡ m.groups → ((g : ℕ) → group ≡ Some g → g < length m.groups)
      → group_or_root at_place before (option_map (λ g. string (group_name m g)) group) ≡ Ok group
  group_found at_place before None same within = refl
  group_found at_place before (Some g) same within =
      let there : find (λ x. x.name) before.groups (group_name m g) ≡ Some g =
      ap (λ gs. find (λ x. x.name) gs (group_name m g)) same ∙ found_there (λ x. x.name) m.groups g no_group groups_apart (within g refl) in
      found_group at_place before (group_name m g) g there

  criterion_again : (seen : List CriterionState) (c : CriterionState) (rest : List CriterionState) → seen ++ c ∷ rest ≡ m.criteria
      → criterion_of true (length seen) (with_criteria seen) (criterion_data m c) ≡ Ok (with_criteria (seen ++ c ∷ []))
  unfolding criterion_of criterion_data
  criterion_again seen c rest e =
      let all : length m.criteria ≡ length seen + suc (length rest) = ap length (sym e) ∙ length-append seen (c ∷ rest) in
      let room : nat_lt (length seen) CRITERIA ≡ true = grind (arith, nat_tests) in
      let is : IsNamedCriterion c = (every-append_right IsNamedCriterion seen (c ∷ rest) (subst (AllByRecursion IsNamedCriterion) (sym e) named)).0 in
      let new : find (λ x. x.name) seen c.name ≡ None = new_name (λ x. x.name) seen c rest m.criteria e apart in
      let here : slice_index_or m.criteria (length seen) no_criterion ≡ c = ap (λ cs. slice_index_or cs (length seen) no_criterion) (sym e)
      ∙ get_or-append_seam seen c rest no_criterion in
      let above = group_found (place.CriterionGroup (length seen)) (with_criteria seen) c.group refl
      (λ g h. placed (length seen) g (ap (λ x. x.group) here ∙ h)) in
      rw (parts_again m (with_criteria seen) (length seen) c c.group is room new above) (ap Ok (one_more seen c))

  pub criteria_again : each_into (criterion_of true) 0 (with_criteria []) (items_of (map (criterion_data m) m.criteria)) ≡ Ok (with_criteria m.criteria)
  criteria_again = each_again (criterion_of true) (criterion_data m) with_criteria m.criteria criterion_again [] m.criteria refl
