-- An edit of a whole model leaves a whole model.
use Rattle.std.proofs.Common.{◌≡◌, ◌⊎◌, inl, inr, rules, ℕ, zero, suc, ◌+◌, ◌<◌, ◌≤◌, ◌==◌, ◌++◌, ◌&&◌, Bool, true, false, not, cond, List, [], ◌∷◌, Option, Some, None, Result, Ok, Err, is_some, position, map, remove, length, get_or, nat_lt, nat_le, All, refl, sym, ap, subst, ◌∙◌, arith, length-append, codes}
use Rattle.std.specs.List.{position_or_len, AllByRecursion}
use Rattle.std.specs.Option.{option_map, option_and_then}
use Rattle.std.specs.Str.{bytes_eq}
use Rattle.std.proofs.lemmas.Bool.Decides.{nat_tests}
use Rattle.std.proofs.lemmas.List.Elements.{All-nil, All-cons, All-push, All-set}
use Rattle.word_table.specs.Words.{are_apart, AreApart}
use Rattle.word_table.proofs.WordLemmas.{apart_by_test}
use Rattle.judgement_matrix.specs.Range.{Bounds, IsRange}
use Rattle.judgement_matrix.specs.Matrix.{Judgements, IsMatrix, unjudged, judged, cleared}
use Rattle.judgement_matrix.specs.declared.matrix.TheConstants.{LIMIT}
use Rattle.judgement_matrix.proofs.ChangeLemmas.{IsMatrix-grown, IsMatrix-without}
use Rattle.judgement_matrix.proofs.KeptMatrices.{IsMatrix-unjudged, IsMatrix-judged, IsMatrix-cleared}
use Rattle.model_core.specs.Lists.{find, changed_at}
use Rattle.model_core.specs.State.{CriterionState, GroupState, ModelState, IsModel, IsCriterion, no_criterion, elements_of, parent_of, empty_model, is_reserved}
use Rattle.model_core.specs.Finding.{find_option, find_criterion, find_group, find_element, criterion_at, place_in, weigh_place, matrix_size}
use Rattle.frac128.specs.Chain.{◌>>=◌, found_or, holds_or}
use Rattle.model_core.specs.Edits.{Edit, add_option, drop_option, add_criterion, drop_criterion, set_refs, judge, unjudge, perform, set_order, weigh, unweigh, set_reach, set_matrix, add_group, drop_group, place, edited, with_change, with_option, without_option, with_criterion, without_criterion, with_performance, with_order, with_weighting, with_group, without_group, regrouped, new_criterion, places_of, is_permutation, group_named, pair_of, weigh_pair}
use Rattle.model_core.specs.Whole.{IsWholeCriterion, IsWholeModel, IsLawful}
use Rattle.judgement_matrix.specs.declared.reach.TheConstants.{LEAST_REACH, MOST_REACH}
use Rattle.model_core.specs.declared.limits.TheConstants.{OPTIONS, CRITERIA, GROUPS, NEW_REACH}
use Rattle.model_core.specs.declared.edit.EditFault.{EditFault}
use Rattle.model_core.specs.declared.edit.EditFault.TheVariants.{AgainstOrder, UnknownElement, UnknownCriterion, UnknownGroup}
use Rattle.model_core.proofs.OrderLemmas.{IsOrder-tested}
use Rattle.model_core.proofs.KeepLemmas.{IsModel-empty, IsModel-changed, set-changed}
use Rattle.model_core.proofs.CriterionLemmas.{All-map, IsModel-wider, IsModel-grouped_wider, IsModel-narrower}
use Rattle.model_core.proofs.GroupGone.{IsModel-ungrouped}
use Rattle.model_core.proofs.ModelChanges.{All-remove, IsRow-none, IsModel-with_row, IsModel-without_option, IsModel-with_performance, IsModel-reweighed, IsModel-with_weighting, IsModel-with_group}

-- ---- steps

-- what an edit leaves, where it isn't refused
abbrev Leaves : Result ModelState EditFault → Type 0
Leaves (Ok after) = IsWholeModel after
Leaves (Err fault) = Unit {0}

after_found : {A : Type 0} (o : Option A) (fault : EditFault) (f : A → Result ModelState EditFault) → ((a : A) → o ≡ Some a → Leaves (f a))
    → Leaves (found_or fault o >>= f)
after_found None fault f h = tt
after_found (Some a) fault f h = h a refl

after_test : (b : Bool) (fault : EditFault) (f : Unit {0} → Result ModelState EditFault) → (b ≡ true → Leaves (f tt)) → Leaves (holds_or fault b >>= f)
after_test true fault f h = h refl
after_test false fault f h = tt

after_step : {A : Type 0} (r : Result A EditFault) (f : A → Result ModelState EditFault) → ((a : A) → r ≡ Ok a → Leaves (f a)) → Leaves (r >>= f)
after_step (Ok a) f h = h a refl
after_step (Err fault) f h = tt

same_some : {A : Type 0} (a b : A) → Some a ≡ Some b → a ≡ b
same_some a b h = cc

below : (a b : ℕ) → nat_lt a b ≡ true → a < b
below a b h = grind (arith, nat_tests)

at_most : (a b : ℕ) → nat_le a b ≡ true → a ≤ b
at_most a b h = grind (arith, nat_tests)

-- ---- places that are found

position_within : {A : Type 0} (p : A → Bool) (xs : List A) (i : ℕ) → position p xs ≡ Some i → i < length xs
position_within p xs i h = by_test (position_or_len p xs) (length xs) h
  where
    by_test : (a b : ℕ) → cond (nat_lt a b) (Some a) None ≡ Some i → i < b
    by_test a b = elim (nat_lt a b) as (λ t. nat_lt a b ≡ t → cond t (Some a) None ≡ Some i → i < b) [
      | true ↦ λ e k. subst (λ n. n < b) (same_some a i k) (below a b e)
      | false ↦ λ e k. cc
    ] refl

pub criterion_within : (m : ModelState) (name : List ℕ) (c : ℕ) → find_criterion m name ≡ Some c → c < length m.criteria
criterion_within m name c h = position_within (λ x. bytes_eq name x.name) m.criteria c h

pub group_within : (m : ModelState) (name : List ℕ) (g : ℕ) → find_group m name ≡ Some g → g < length m.groups
group_within m name g h = position_within (λ x. bytes_eq name x.name) m.groups g h

pub option_within : (m : ModelState) (name : List ℕ) (o : ℕ) → find_option m name ≡ Some o → o < length m.options
option_within m name o h = position_within (λ x. bytes_eq name x) m.options o h

-- a place from 1
pub place_within : (names : List (List ℕ)) (name : List ℕ) (e : ℕ) → option_map (λ at. at + 1) (find (λ other. other) names name) ≡ Some e
    → (1 ≤ e) × (e ≤ length names)
place_within names name e h = by_place (find (λ other. other) names name) refl h
  where
    by_place : (o : Option ℕ) → find (λ other. other) names name ≡ o → option_map (λ at. at + 1) o ≡ Some e → (1 ≤ e) × (e ≤ length names)
    by_place None is k = cc
    by_place (Some at) is k =
        let low : at < length names = position_within (λ x. bytes_eq name x) names at is in
        let next : at + 1 ≡ e = same_some (at + 1) e k in
        (omega (arith, next), omega (arith, next, low))

-- ---- criteria

-- a criterion of a whole model
pub whole_at : (m : ModelState) (c : ℕ) → IsWholeModel m → c < length m.criteria → IsWholeCriterion (criterion_at m c)
whole_at m c is there = is.criteria c no_criterion there

-- a change that keeps what the criterion at this place keeps
pub All-changed : (f : CriterionState → CriterionState) (cs : List CriterionState) (c : ℕ) → c < length cs
    → IsWholeCriterion (f (get_or cs c no_criterion)) → All IsWholeCriterion cs → All IsWholeCriterion (changed_at f cs c)
All-changed f cs c there new all =
    subst (All IsWholeCriterion) (set-changed f cs c no_criterion there) (All-set IsWholeCriterion cs c (f (get_or cs c no_criterion)) new all)

-- a criterion whose elements and group stay
changed : (m : ModelState) (f : CriterionState → CriterionState) (c : ℕ) → ((x : CriterionState) → (f x).elements ≡ x.elements)
    → ((x : CriterionState) → (f x).group ≡ x.group) → IsWholeModel m → c < length m.criteria → IsWholeCriterion (f (criterion_at m c))
    → IsWholeModel (with_change m c f)
changed m f c same stays is there new = record {
  keeps = IsModel-changed f same m (λ x g has. inl (sym (stays x) ∙ has)) is.keeps c (changed_at f m.criteria c) refl;
  criteria = All-changed f m.criteria c there new is.criteria;
  weighting = is.weighting;
}

-- a pair of elements, the first above the second
abbrev IsPairOf : CriterionState → Result (ℕ × ℕ) EditFault → Type 0
IsPairOf c (Ok pair) = (1 ≤ pair.0) × (pair.0 < pair.1) × (pair.1 ≤ length c.elements)
IsPairOf c (Err fault) = Unit {0}

pair_within : (c : CriterionState) (x y : List ℕ) → IsPairOf c (pair_of c x y)
pair_within c x y = by_places (find_element c x) (find_element c y) (λ e at. place_within c.elements x e at) (λ e at. place_within c.elements y e at)
  where
    by_order : (p q : ℕ) (b : Bool) → nat_lt p q ≡ b → 1 ≤ p → q ≤ length c.elements → IsPairOf c (holds_or AgainstOrder b >>= λ above. Ok (p, q))
    by_order p q true is first last = (first, below p q is, last)
    by_order p q false is first last = tt

    by_places : (p q : Option ℕ) → ((e : ℕ) → p ≡ Some e → (1 ≤ e) × (e ≤ length c.elements)) → ((e : ℕ) → q ≡ Some e → (1 ≤ e) × (e ≤ length c.elements))
        → IsPairOf c (found_or UnknownElement p >>= λ p. found_or UnknownElement q >>= λ q. holds_or AgainstOrder (nat_lt p q) >>= λ above. Ok (p, q))
    by_places None q first second = tt
    by_places (Some p) None first second = tt
    by_places (Some p) (Some q) first second = by_order p q (nat_lt p q) refl (first p refl).0 (second q refl).1

of_pair : (c : CriterionState) (x y : List ℕ) (pair : ℕ × ℕ) → pair_of c x y ≡ Ok pair → (1 ≤ pair.0) × (pair.0 < pair.1) × (pair.1 ≤ length c.elements)
of_pair c x y pair e = subst (IsPairOf c) e (pair_within c x y)

with_references : (c : CriterionState) (good neutral : ℕ) → IsWholeCriterion c → (1 ≤ good) × (good < neutral) × (neutral ≤ length c.elements)
    → IsWholeCriterion (record c { good = good; neutral = neutral })
with_references c good neutral is pair = record {
  keeps = record {
    least = is.keeps.least;
    most = is.keeps.most;
    apart = is.keeps.apart;
    good_is = pair.0;
    above = pair.1;
    neutral_is = pair.2;
    size = is.keeps.size;
    least_reach = is.keeps.least_reach;
    most_reach = is.keeps.most_reach;
    free_name = is.keeps.free_name;
  };
  matrix = is.matrix;
}

pub with_matrix : (c : CriterionState) (matrix : Judgements) → IsWholeCriterion c → IsMatrix matrix → matrix.size ≡ c.matrix.size
    → IsWholeCriterion (record c { matrix = matrix })
with_matrix c matrix is matrix_is size = record {
  keeps = record {
    least = is.keeps.least;
    most = is.keeps.most;
    apart = is.keeps.apart;
    good_is = is.keeps.good_is;
    above = is.keeps.above;
    neutral_is = is.keeps.neutral_is;
    size = size ∙ is.keeps.size;
    least_reach = is.keeps.least_reach;
    most_reach = is.keeps.most_reach;
    free_name = is.keeps.free_name;
  };
  matrix = matrix_is;
}

with_reach : (c : CriterionState) (n : ℕ) → IsWholeCriterion c → (LEAST_REACH ≤ n) × (n ≤ MOST_REACH) → IsWholeCriterion (record c { reach = n })
with_reach c n is within = record {
  keeps = record {
    least = is.keeps.least;
    most = is.keeps.most;
    apart = is.keeps.apart;
    good_is = is.keeps.good_is;
    above = is.keeps.above;
    neutral_is = is.keeps.neutral_is;
    size = is.keeps.size;
    least_reach = within.0;
    most_reach = within.1;
    free_name = is.keeps.free_name;
  };
  matrix = is.matrix;
}

pub with_group_of : (c : CriterionState) (group : Option ℕ) → IsWholeCriterion c → IsWholeCriterion (record c { group = group })
with_group_of c group is = record {
  keeps = record {
    least = is.keeps.least;
    most = is.keeps.most;
    apart = is.keeps.apart;
    good_is = is.keeps.good_is;
    above = is.keeps.above;
    neutral_is = is.keeps.neutral_is;
    size = is.keeps.size;
    least_reach = is.keeps.least_reach;
    most_reach = is.keeps.most_reach;
    free_name = is.keeps.free_name;
  };
  matrix = is.matrix;
}

-- ---- the whole at its start

pub IsWholeModel-empty : IsWholeModel empty_model
IsWholeModel-empty = record {
  keeps = IsModel-empty;
  criteria = All-nil IsWholeCriterion;
  weighting = IsMatrix-unjudged 1 (search rules);
}

-- ---- one edit at a time

module _ (m : ModelState) (is : IsWholeModel m) where
  -- another weighting
  reweighed : (order : List ℕ) (w : Judgements) → IsModel (record m { order = order; weighting = w }) → IsMatrix w
      → IsWholeModel (record m { order = order; weighting = w })
  reweighed order w keeps matrix = record { keeps = keeps; criteria = is.criteria; weighting = matrix }

  with_option_whole : (name : List ℕ) → nat_lt (length m.options) OPTIONS ≡ true → IsWholeModel (with_option m name)
  with_option_whole name room = record {
    keeps = IsModel-with_row m name _ is.keeps (below (length m.options) OPTIONS room) (IsRow-none m.criteria);
    criteria = is.criteria;
    weighting = is.weighting;
  }

  without_option_whole : (o : ℕ) → o < length m.options → IsWholeModel (without_option m o)
  without_option_whole o there = record { keeps = IsModel-without_option m o is.keeps there; criteria = is.criteria; weighting = is.weighting }

  new_is_whole : (name : List ℕ) (elements : List (List ℕ)) → (2 ≤ length elements) × (is_reserved name ≡ false) → are_apart elements ≡ true
      → length elements ≤ LIMIT → IsWholeCriterion (new_criterion name elements)
  new_is_whole name elements parts apart few = record {
    keeps = record {
      least = parts.0;
      most = few;
      apart = apart_by_test elements apart;
      good_is = omega arith;
      above = omega (arith, parts.0);
      neutral_is = omega arith;
      size = refl;
      least_reach = search rules;
      most_reach = search rules;
      free_name = parts.1;
    };
    matrix = IsMatrix-unjudged (length elements) (omega (arith, parts.0), few);
  }

  with_criterion_whole : (name : List ℕ) (elements : List (List ℕ)) → (2 ≤ length elements) × (is_reserved name ≡ false) → are_apart elements ≡ true
      → nat_lt (length m.criteria) CRITERIA ≡ true → nat_le (length elements) LIMIT ≡ true → IsWholeModel (with_criterion m (new_criterion name elements))
  with_criterion_whole name elements parts apart room few =
      let space : length m.criteria < CRITERIA = below (length m.criteria) CRITERIA room in
      let size : m.weighting.size ≡ length m.criteria + 1 = is.keeps.size in
      record {
        keeps = IsModel-wider m (new_criterion name elements) is.keeps space refl;
        criteria = All-push IsWholeCriterion m.criteria (new_criterion name elements) is.criteria
            (new_is_whole name elements parts apart (at_most (length elements) LIMIT few));
        weighting = IsMatrix-grown m.weighting is.weighting (omega (arith, size, space));
      }

  without_criterion_whole : (c : ℕ) → c < length m.criteria → IsWholeModel (without_criterion m c)
  without_criterion_whole c there =
      let size : m.weighting.size ≡ length m.criteria + 1 = is.keeps.size in
      record {
        keeps = IsModel-narrower m c is.keeps there;
        criteria = All-remove IsWholeCriterion m.criteria c there is.criteria;
        weighting = IsMatrix-without m.weighting (place_in m.order c) is.weighting (omega (arith, size, there));
      }

  -- a criterion's matrix by another of its size
  matrix_changed : (c : ℕ) (g : Judgements → Judgements) → c < length m.criteria → ((j : Judgements) → (g j).size ≡ j.size)
      → ((j : Judgements) → IsMatrix j → IsMatrix (g j)) → IsWholeModel (with_change m c (λ criterion. record criterion { matrix = g criterion.matrix }))
  matrix_changed c g there same keeps =
      let whole = whole_at m c is there in
      changed m (λ criterion. record criterion { matrix = g criterion.matrix }) c (λ x. refl) (λ x. refl) is there
      (with_matrix (criterion_at m c) (g (criterion_at m c).matrix) whole (keeps (criterion_at m c).matrix whole.matrix) (same (criterion_at m c).matrix))

  -- the places of names are places of criteria
  abbrev ArePlaces : Option (List ℕ) → Type 0
  ArePlaces None = Unit {0}
  ArePlaces (Some order) = All (λ c. c < length m.criteria) order

  places_within : (names : List (List ℕ)) → ArePlaces (places_of m names)
  places_within [] = All-nil (λ c. c < length m.criteria)
  places_within (name ∷ names) =
      by_first (find_criterion m name) (λ c at. criterion_within m name c at) (places_of m names) (places_within names)
    where
      by_first : (first : Option ℕ) → ((c : ℕ) → first ≡ Some c → c < length m.criteria) → (rest : Option (List ℕ)) → ArePlaces rest
          → ArePlaces (option_and_then (λ c. option_map (λ cs. c ∷ cs) rest) first)
      by_first None low rest others = tt
      by_first (Some c) low None others = tt
      by_first (Some c) low (Some cs) others = All-cons (λ d. d < length m.criteria) c cs (low c refl) others

  ordered_whole : (names : List (List ℕ)) (order : List ℕ) → places_of m names ≡ Some order → is_permutation (length m.criteria) order ≡ true
      → IsWholeModel (with_order m order)
  ordered_whole names order at each =
      let few : length m.criteria ≤ CRITERIA = is.keeps.few_criteria in
      reweighed order (unjudged (length m.criteria + 1))
      (IsModel-reweighed m order (unjudged (length m.criteria + 1)) is.keeps
      (IsOrder-tested (length m.criteria) order (subst ArePlaces at (places_within names)) each) refl)
      (IsMatrix-unjudged (length m.criteria + 1) (omega arith, omega (arith, few)))

  weighing : (w : Judgements) → w.size ≡ m.weighting.size → IsMatrix w → IsWholeModel (with_weighting m w)
  weighing w size matrix = reweighed m.order w (IsModel-with_weighting m w is.keeps (size ∙ is.keeps.size)) matrix

  of_matrix : (name : List ℕ) (matrix : Judgements) → IsLawful m (set_matrix name matrix) → Leaves (edited m (set_matrix name matrix))
  of_matrix name matrix parts = by_name (bytes_eq name (codes "weighting")) parts.1
    where
      of_criterion : (c : ℕ) → find_criterion m name ≡ Some c → matrix.size ≡ length (criterion_at m c).elements
          → IsWholeModel (with_change m c (λ criterion. record criterion { matrix = matrix }))
      of_criterion c at size =
          let there = criterion_within m name c at in
          let whole = whole_at m c is there in
          changed m (λ criterion. record criterion { matrix = matrix }) c (λ x. refl) (λ x. refl) is there
          (with_matrix (criterion_at m c) matrix whole parts.0 (size ∙ sym whole.keeps.size))

      by_name : (b : Bool)
          → ((size : ℕ) → cond b (Some (length m.criteria + 1)) (option_map (λ c. length (criterion_at m c).elements) (find_criterion m name)) ≡ Some size
          → matrix.size ≡ size)
          → Leaves (cond b (Ok (with_weighting m matrix))
          (found_or UnknownCriterion (find_criterion m name) >>= λ c. Ok (with_change m c (λ criterion. record criterion { matrix = matrix }))))
      by_name true size = weighing matrix (size (length m.criteria + 1) refl ∙ sym is.keeps.size) parts.0
      by_name false size =
          after_found (find_criterion m name) UnknownCriterion (λ c. Ok (with_change m c (λ criterion. record criterion { matrix = matrix })))
          (λ c at. of_criterion c at (size (length (criterion_at m c).elements) (ap (option_map (λ d. length (criterion_at m d).elements)) at)))

  -- the root, or a group that is there
  abbrev IsGroupOf : Result (Option ℕ) EditFault → Type 0
  IsGroupOf (Ok group) = (g : ℕ) → group ≡ Some g → g < length m.groups
  IsGroupOf (Err fault) = Unit {0}

  named_within : (name : Option (List ℕ)) → IsGroupOf (group_named m name)
  named_within None = λ g has. absurd (none_some g has)
    where
      none_some : (g : ℕ) → None ≡ Some g → ⊥
      none_some g h = cc
  named_within (Some name) = by_group (find_group m name) (λ g at. group_within m name g at)
    where
      by_group : (o : Option ℕ) → ((g : ℕ) → o ≡ Some g → g < length m.groups) → IsGroupOf (found_or UnknownGroup o >>= λ g. Ok (Some g))
      by_group None low = tt
      by_group (Some k) low = λ g has. subst (λ n. n < length m.groups) (same_some k g has) (low k refl)

  of_group : (name : Option (List ℕ)) (group : Option ℕ) → group_named m name ≡ Ok group → (g : ℕ) → group ≡ Some g → g < length m.groups
  of_group name group e = subst IsGroupOf e (named_within name)

  with_group_whole : (group : GroupState) → ((g : ℕ) → group.parent ≡ Some g → g < length m.groups) → nat_lt (length m.groups) GROUPS ≡ true
      → IsWholeModel (with_group m group)
  with_group_whole group above room = record {
    keeps = IsModel-with_group m group is.keeps (below (length m.groups) GROUPS room) above;
    criteria = is.criteria;
    weighting = is.weighting;
  }

  without_group_whole : (g : ℕ) → g < length m.groups → IsWholeModel (without_group m g (parent_of m.groups g))
  without_group_whole g there = record {
    keeps = IsModel-ungrouped m g is.keeps there;
    criteria = All-map IsWholeCriterion (regrouped g (parent_of m.groups g)) m.criteria
        (λ k d within. with_group_of (get_or m.criteria k d) _ (is.criteria k d within));
    weighting = is.weighting;
  }

  placed_whole : (c : ℕ) (group : Option ℕ) → c < length m.criteria → ((g : ℕ) → group ≡ Some g → g < length m.groups)
      → IsWholeModel (with_change m c (λ criterion. record criterion { group = group }))
  placed_whole c group there low = record {
    keeps = IsModel-changed (λ criterion. record criterion { group = group }) (λ x. refl) m (λ x k has. inr (low k has)) is.keeps c _ refl;
    criteria = All-changed (λ criterion. record criterion { group = group }) m.criteria c there
        (with_group_of (criterion_at m c) group (whole_at m c is there)) is.criteria;
    weighting = is.weighting;
  }

  -- an edit of lawful parts
  leaves : (edit : Edit) → IsLawful m edit → Leaves (edited m edit)
  leaves (add_option name) parts =
      after_test (not (is_some (find_option m name))) _ _ (λ free. after_test (nat_lt (length m.options) OPTIONS) _ _ (with_option_whole name))
  leaves (drop_option name) parts = after_found (find_option m name) _ _ (λ o at. without_option_whole o (option_within m name o at))
  leaves (add_criterion name elements) parts =
      after_test (not (is_some (find_criterion m name))) _ _ (λ free. after_test (are_apart elements) _ _ (λ apart.
      after_test (nat_lt (length m.criteria) CRITERIA) _ _ (λ room. after_test (nat_le (length elements) LIMIT) _ _
      (with_criterion_whole name elements parts apart room))))
  leaves (drop_criterion name) parts = after_found (find_criterion m name) _ _ (λ c at. without_criterion_whole c (criterion_within m name c at))
  leaves (set_refs name good neutral) parts =
      after_found (find_criterion m name) _ _ (λ c at. after_step (pair_of (criterion_at m c) good neutral) _ (λ pair e.
      changed m (λ criterion. record criterion { good = pair.0; neutral = pair.1 }) c (λ x. refl) (λ x. refl) is (criterion_within m name c at)
      (with_references (criterion_at m c) pair.0 pair.1 (whole_at m c is (criterion_within m name c at)) (of_pair (criterion_at m c) good neutral pair e))))
  leaves (judge name x y range) parts =
      after_found (find_criterion m name) _ _ (λ c at. after_step (pair_of (criterion_at m c) x y) _ (λ pair e.
      matrix_changed c (λ j. judged j pair.0 pair.1 range) (criterion_within m name c at) (λ j. refl) (λ j j_is. IsMatrix-judged j pair.0 pair.1 range j_is parts)))
  leaves (unjudge name x y) parts =
      after_found (find_criterion m name) _ _ (λ c at. after_step (pair_of (criterion_at m c) x y) _ (λ pair e.
      matrix_changed c (λ j. cleared j pair.0 pair.1) (criterion_within m name c at) (λ j. refl) (λ j j_is. IsMatrix-cleared j pair.0 pair.1 j_is)))
  leaves (perform option name element) parts =
      after_found (find_option m option) _ _ (λ o at. after_found (find_criterion m name) _ _ (λ c c_at.
      after_found (find_element (criterion_at m c) element) _ _ (λ e e_at.
      let within = place_within (criterion_at m c).elements element e e_at in
      record {
        keeps = IsModel-with_performance m o c e is.keeps (option_within m option o at) (criterion_within m name c c_at) within.0 within.1;
        criteria = is.criteria;
        weighting = is.weighting;
      })))
  leaves (set_order names) parts =
      after_found (places_of m names) _ _ (λ order at. after_test (is_permutation (length m.criteria) order) _ _ (ordered_whole names order at))
  leaves (weigh x y range) parts =
      after_step (weigh_pair m x y) _ (λ pair e.
      weighing (judged m.weighting pair.0 pair.1 range) refl (IsMatrix-judged m.weighting pair.0 pair.1 range is.weighting parts))
  leaves (unweigh x y) parts =
      after_step (weigh_pair m x y) _ (λ pair e.
      weighing (cleared m.weighting pair.0 pair.1) refl (IsMatrix-cleared m.weighting pair.0 pair.1 is.weighting))
  leaves (set_reach name n) parts =
      after_found (find_criterion m name) _ _ (λ c at.
      changed m (λ criterion. record criterion { reach = n }) c (λ x. refl) (λ x. refl) is (criterion_within m name c at)
      (with_reach (criterion_at m c) n (whole_at m c is (criterion_within m name c at)) parts))
  leaves (set_matrix name matrix) parts = of_matrix name matrix parts
  leaves (add_group name parent) parts =
      after_step (group_named m parent) _ (λ above e. after_test (not (is_some (find_group m name))) _ _ (λ free.
      after_test (nat_lt (length m.groups) GROUPS) _ _ (with_group_whole (record { name = name; parent = above }) (of_group parent above e))))
  leaves (drop_group name) parts = after_found (find_group m name) _ _ (λ g at. without_group_whole g (group_within m name g at))
  leaves (place name group) parts =
      after_found (find_criterion m name) _ _ (λ c at. after_step (group_named m group) _ (λ g e.
      placed_whole c g (criterion_within m name c at) (of_group group g e)))

-- an edit of lawful parts that isn't refused leaves a whole model
pub edits_keep : (m after : ModelState) (edit : Edit) → IsWholeModel m → IsLawful m edit → edited m edit ≡ Ok after → IsWholeModel after
edits_keep m after edit is parts e = subst Leaves e (leaves m is edit parts)
