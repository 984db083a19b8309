-- A model that was written is read as the same model.
use Rattle.std.proofs.Common.{◌≡◌, ℕ, ◌+◌, ◌<◌, ◌==◌, not, arith, true, false, List, [], ◌∷◌, ◌++◌, length, map, None, Some, Ok, refl, sym, ap, subst, ◌∙◌}
use Rattle.std.specs.Prelude.{eqb}
use Rattle.std.specs.List.{AllByRecursion, IsDistinct, range_with_len, list_all}
use Rattle.std.proofs.lemmas.Bool.Decides.{nat_tests}
use Rattle.std.proofs.lemmas.List.Elements.{recursion_from_All}
use Rattle.serde_json.specs.Data.{string}
use Rattle.serde_json.specs.View.{items_of}
use Rattle.integers.specs.Counting.{IsOrder}
use Rattle.word_table.specs.Words.{AreApart}
use Rattle.judgement_matrix.specs.Matrix.{unjudged}
use Rattle.judgement_matrix.proofs.EveryLemmas.{every-append_right, every_weaker}
use Rattle.model_core.specs.Lists.{AreNamedApart, find}
use Rattle.model_core.specs.State.{ModelState, IsRow, no_criterion, empty_model}
use Rattle.model_core.specs.Edits.{are_numbers_apart, is_permutation}
use Rattle.model_json.specs.Steps.{each_into}
use Rattle.model_json.specs.Reading.{ranked_of, order_of, weighting_of, format_of, group_of, criterion_of, option_of, contents_of, model_of}
use Rattle.model_json.specs.Writing.{array_of, criterion_name, group_data, criterion_data, option_data, options_with_rows, weighting_data, model_data}
use Rattle.model_json.specs.Text.{json_of, load_of}
use Rattle.model_json.specs.Kept.{IsNamed, IsNamedCriterion, IsNamedModel}
use Rattle.model_json.proofs.EachAgain.{each_again}
use Rattle.model_json.proofs.NamesAgain.{found_there}
use Rattle.model_json.proofs.JudgementsAgain.{judgements_again}
use Rattle.model_json.proofs.GroupsAgain.{groups_again}
use Rattle.model_json.proofs.CriteriaAgain.{criteria_again}
use Rattle.model_json.proofs.OptionsAgain.{options_again}

-- ---- the weighting

others_differ : (c : ℕ) (ds : List ℕ) → AllByRecursion (λ d. eqb c d ≡ false) ds → list_all (λ d. not (c == d)) ds ≡ true
others_differ c [] h = refl
others_differ c (d ∷ ds) h = let e : (c == d) ≡ false = h.0 in rw e (others_differ c ds h.1)

numbers_apart : (order : List ℕ) → IsDistinct eqb order → are_numbers_apart order ≡ true
unfolding IsDistinct
numbers_apart [] h = refl
numbers_apart (c ∷ cs) h = rw (others_differ c cs h.0) (numbers_apart cs h.1)

is_permutation_of : (n : ℕ) (order : List ℕ) → IsOrder n order → is_permutation n order ≡ true
is_permutation_of n order is =
    let size : (length order == n) ≡ true = let e = is.each in grind (arith, nat_tests) in
    rw size (numbers_apart order is.once)

module _ (m : ModelState) (apart : AreNamedApart (λ c. c.name) m.criteria) where
  ranked_again : (before : ModelState) → before.criteria ≡ m.criteria → AllByRecursion (λ c. c < length m.criteria) m.order
      → (seen : List ℕ) (c : ℕ) (rest : List ℕ) → seen ++ c ∷ rest ≡ m.order
      → ranked_of before (length seen) seen (string (criterion_name m c)) ≡ Ok (seen ++ c ∷ [])
  unfolding ranked_of
  ranked_again before same within seen c rest e =
      let low : c < length m.criteria = (every-append_right (λ d. d < length m.criteria) seen (c ∷ rest)
      (subst (AllByRecursion (λ d. d < length m.criteria)) (sym e) within)).0 in
      let there : find (λ x. x.name) before.criteria (criterion_name m c) ≡ Some c =
      ap (λ cs. find (λ x. x.name) cs (criterion_name m c)) same ∙ found_there (λ x. x.name) m.criteria c no_criterion apart low in
      rw there refl

  order_again : (before : ModelState) → before.criteria ≡ m.criteria → IsOrder (length m.criteria) m.order
      → order_of before (Some (array_of (map (λ c. string (criterion_name m c)) m.order))) ≡ Ok m.order
  unfolding order_of
  order_again before same is =
      let each : each_into (ranked_of before) 0 [] (items_of (map (λ c. string (criterion_name m c)) m.order)) ≡ Ok m.order =
      each_again (ranked_of before) (λ c. string (criterion_name m c)) (λ xs. xs) m.order
      (ranked_again before same (recursion_from_All (λ c. c < length m.criteria) m.order is.within)) [] m.order refl in
      let test : is_permutation (length before.criteria) m.order ≡ true = ap (λ cs. is_permutation (length cs) m.order) same
      ∙ is_permutation_of (length m.criteria) m.order is in
      rw (each, test) refl

-- the model of which all but the weighting was read
abbrev without_weighting : ModelState → ModelState
without_weighting m = record m { order = range_with_len 0 (length m.criteria); weighting = unjudged (length m.criteria + 1) }

weighting_again : (m : ModelState) → IsNamedModel m → weighting_of (without_weighting m) (Some (weighting_data m)) ≡ Ok m
unfolding weighting_of weighting_data
weighting_again m is =
    rw (
      order_again m is.criteria_apart (without_weighting m) refl is.keeps.order_is,
      judgements_again None (length m.criteria + 1) m.weighting is.weighting is.keeps.size,
    ) refl

-- ---- the whole

-- the model of which the groups were read, and that of which the criteria were read too
abbrev after_groups : ModelState → ModelState
after_groups m = record empty_model { groups = m.groups }

abbrev after_criteria : ModelState → ModelState
after_criteria m = record {
  options = [];
  criteria = m.criteria;
  groups = m.groups;
  performances = [];
  order = range_with_len 0 (length m.criteria);
  weighting = unjudged (length m.criteria + 1);
}

parts_again : (m : ModelState) → each_into group_of 0 empty_model (items_of (map (group_data m) m.groups)) ≡ Ok (after_groups m)
    → each_into (criterion_of true) 0 (after_groups m) (items_of (map (criterion_data m) m.criteria)) ≡ Ok (after_criteria m)
    → each_into option_of 0 (after_criteria m) (items_of (map (option_data m) (options_with_rows m.options m.performances))) ≡ Ok (without_weighting m)
    → weighting_of (without_weighting m) (Some (weighting_data m)) ≡ Ok m
    → model_of (model_data m) ≡ Ok m
unfolding model_of contents_of format_of model_data
parts_again m groups criteria options weighting = rw (groups, criteria, options, weighting) refl

pub model_again : (m : ModelState) → IsNamedModel m → model_of (model_data m) ≡ Ok m
model_again m is =
    let named : AllByRecursion IsNamedCriterion m.criteria = recursion_from_All IsNamedCriterion m.criteria is.criteria in
    let elements = every_weaker IsNamedCriterion (λ c. AreApart c.elements) (λ c h. h.keeps.apart) m.criteria named in
    parts_again m
    (groups_again m is.keeps.few_groups is.groups_apart is.keeps.groups_are (recursion_from_All (λ g. IsNamed g.name) m.groups is.groups))
    (criteria_again m is.keeps.few_criteria is.criteria_apart named is.groups_apart is.keeps.placed)
    (options_again m is.keeps.few_options is.options_apart (recursion_from_All IsNamed m.options is.options) is.keeps.rows
    (recursion_from_All (IsRow m.criteria) m.performances is.keeps.each_row) is.criteria_apart elements)
    (weighting_again m is)

pub load_again : (text : List ℕ) (m : ModelState) → json_of text ≡ Some (model_data m) → IsNamedModel m → load_of text ≡ Ok m
unfolding load_of
load_again text m json is = rw (json, model_again m is) refl
