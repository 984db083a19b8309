-- What a model keeps, where an option, a performance, an order or a group comes or goes.
use Rattle.std.proofs.Common.{◌≡◌, ℕ, zero, suc, ◌+◌, ◌<◌, ◌≤◌, ◌++◌, ◌⊎◌, inl, inr, List, [], ◌∷◌, Option, Some, None, replicate, remove, length, get_or, set, All, refl, sym, ap, subst, ◌∙◌, arith, length-append}
use Rattle.std.proofs.lemmas.Bool.{cases_lt}
use Rattle.std.proofs.lemmas.List.{length-set, length-replicate, get_or-set_same, get_or-set_other}
use Rattle.std.proofs.lemmas.List.Edits.{length-remove, get_or-remove_below, get_or-remove_above}
use Rattle.std.proofs.lemmas.List.Elements.{All-push, All-set}
use Rattle.integers.specs.Counting.{IsOrder}
use Rattle.judgement_matrix.specs.Matrix.{Judgements}
use Rattle.model_core.specs.State.{CriterionState, GroupState, ModelState, IsModel, IsRow, AreGroups, elements_of, parent_of}
use Rattle.model_core.specs.Edits.{without_option, with_performance, with_weighting, with_group}
use Rattle.model_core.specs.declared.limits.TheConstants.{OPTIONS, GROUPS}

none_some : {e : ℕ} → None ≡ Some e → ⊥
none_some h = cc

same_some : (a b : ℕ) → Some a ≡ Some b → a ≡ b
same_some a b h = cc

-- what holds of each holds of each that is left
pub All-remove : {A : Type 0} (P : A → Type 0) (xs : List A) (i : ℕ) → i < length xs → All P xs → All P (remove xs i)
All-remove P xs i there h k d within = elim (cases_lt k i) [
  | inl low ↦ subst P (sym (get_or-remove_below xs i d k low there)) (h k d (omega (arith, within, length-remove xs i there)))
  | inr high ↦ subst P (sym (get_or-remove_above xs i d k high there)) (h (k + 1) d (omega (arith, within, length-remove xs i there)))
]

-- ---- options

abbrev nothing : Option ℕ
nothing = None

no_performance : (n c : ℕ) → get_or (replicate n nothing) c nothing ≡ nothing
no_performance zero zero = refl
no_performance zero (suc c) = refl
no_performance (suc n) zero = refl
no_performance (suc n) (suc c) = no_performance n c

-- a new option performs on no criterion
pub IsRow-none : (criteria : List CriterionState) → IsRow criteria (replicate (length criteria) None)
IsRow-none criteria = record {
  each = length-replicate (length criteria) None;
  performed = λ c e has. absurd (none_some (sym (no_performance (length criteria) c) ∙ has));
}

-- one more option, with a row
pub IsModel-with_row : (m : ModelState) (name : List ℕ) (row : List (Option ℕ)) → IsModel m → length m.options < OPTIONS → IsRow m.criteria row
    → IsModel (record m { options = m.options ++ name ∷ []; performances = m.performances ++ row ∷ [] })
IsModel-with_row m name row is room row_is = record {
  few_options = omega (arith, length-append m.options (name ∷ []), room);
  few_criteria = is.few_criteria;
  few_groups = is.few_groups;
  rows = omega (arith, length-append m.options (name ∷ []), length-append m.performances (row ∷ []), is.rows);
  each_row = All-push (IsRow m.criteria) m.performances row is.each_row row_is;
  order_is = is.order_is;
  size = is.size;
  groups_are = is.groups_are;
  placed = is.placed;
}

pub IsModel-without_option : (m : ModelState) (o : ℕ) → IsModel m → o < length m.options → IsModel (without_option m o)
IsModel-without_option m o is there =
    let in_rows : o < length m.performances = subst (λ n. o < n) (sym is.rows) there in
    record {
      few_options = omega (arith, length-remove m.options o there, is.few_options);
      few_criteria = is.few_criteria;
      few_groups = is.few_groups;
      rows = omega (arith, length-remove m.options o there, length-remove m.performances o in_rows, is.rows);
      each_row = All-remove (IsRow m.criteria) m.performances o in_rows is.each_row;
      order_is = is.order_is;
      size = is.size;
      groups_are = is.groups_are;
      placed = is.placed;
    }

-- an element of a criterion is performed
pub IsRow-set : (criteria : List CriterionState) (row : List (Option ℕ)) (c e : ℕ) → IsRow criteria row → c < length criteria → 1 ≤ e
    → e ≤ length (elements_of criteria c) → IsRow criteria (set row c (Some e))
IsRow-set criteria row c e is there first last = record {
  each = length-set row c (Some e) ∙ is.each;
  performed = λ d f has. by_place d f has (cases_lt c d) (cases_lt d c);
}
  where
    within : c < length row
    within = subst (λ n. c < n) (sym is.each) there

    at_other : (d f : ℕ) → (d ≡ c → ⊥) → get_or (set row c (Some e)) d None ≡ Some f → (1 ≤ f) × (f ≤ length (elements_of criteria d))
    at_other d f other has = is.performed d f (sym (get_or-set_other row c d (Some e) None other) ∙ has)

    at_same : (d f : ℕ) → d ≡ c → get_or (set row c (Some e)) d None ≡ Some f → (1 ≤ f) × (f ≤ length (elements_of criteria d))
    at_same d f same has =
        let value : e ≡ f = same_some e f (sym (get_or-set_same row c (Some e) None within) ∙ ap (λ k. get_or (set row c (Some e)) k None) (sym same) ∙ has) in
        subst (λ k. (1 ≤ f) × (f ≤ length (elements_of criteria k))) (sym same) (subst (λ k. (1 ≤ k) × (k ≤ length (elements_of criteria c))) value (first, last))

    by_place : (d f : ℕ) → get_or (set row c (Some e)) d None ≡ Some f → (c < d) ⊎ (d ≤ c) → (d < c) ⊎ (c ≤ d)
        → (1 ≤ f) × (f ≤ length (elements_of criteria d))
    by_place d f has (inl above) below = at_other d f (λ same. omega (arith, above, same)) has
    by_place d f has (inr most) (inl below) = at_other d f (λ same. omega (arith, below, same)) has
    by_place d f has (inr most) (inr least) = at_same d f (omega (arith, most, least)) has

pub IsModel-with_performance : (m : ModelState) (o c e : ℕ) → IsModel m → o < length m.options → c < length m.criteria → 1 ≤ e
    → e ≤ length (elements_of m.criteria c) → IsModel (with_performance m o c e)
IsModel-with_performance m o c e is there among first last =
    let in_rows : o < length m.performances = subst (λ n. o < n) (sym is.rows) there in
    let row = get_or m.performances o [] in
    record {
      few_options = is.few_options;
      few_criteria = is.few_criteria;
      few_groups = is.few_groups;
      rows = length-set m.performances o (set row c (Some e)) ∙ is.rows;
      each_row = All-set (IsRow m.criteria) m.performances o (set row c (Some e))
          (IsRow-set m.criteria row c e (is.each_row o [] in_rows) among first last) is.each_row;
      order_is = is.order_is;
      size = is.size;
      groups_are = is.groups_are;
      placed = is.placed;
    }

-- ---- the weighting

-- another order and other judgements of as many criteria
pub IsModel-reweighed : (m : ModelState) (order : List ℕ) (w : Judgements) → IsModel m → IsOrder (length m.criteria) order
    → w.size ≡ length m.criteria + 1 → IsModel (record m { order = order; weighting = w })
IsModel-reweighed m order w is order_is size = record {
  few_options = is.few_options;
  few_criteria = is.few_criteria;
  few_groups = is.few_groups;
  rows = is.rows;
  each_row = is.each_row;
  order_is = order_is;
  size = size;
  groups_are = is.groups_are;
  placed = is.placed;
}

pub IsModel-with_weighting : (m : ModelState) (w : Judgements) → IsModel m → w.size ≡ length m.criteria + 1 → IsModel (with_weighting m w)
IsModel-with_weighting m w is size = IsModel-reweighed m m.order w is is.order_is size

-- ---- groups

parent_of-push : (xs : List GroupState) (x : GroupState) (k a : ℕ) → parent_of (xs ++ x ∷ []) k ≡ Some a
    → (parent_of xs k ≡ Some a) ⊎ ((k ≡ length xs) × (x.parent ≡ Some a))
parent_of-push [] x zero a h = inr (refl, h)
parent_of-push [] x (suc zero) a h = absurd (none_some h)
parent_of-push [] x (suc (suc k)) a h = absurd (none_some h)
parent_of-push (y ∷ ys) x zero a h = inl h
parent_of-push (y ∷ ys) x (suc k) a h = elim (parent_of-push ys x k a h) [
  | inl was ↦ inl was
  | inr new ↦ inr (ap suc new.0, new.1)
]

pub IsModel-with_group : (m : ModelState) (group : GroupState) → IsModel m → length m.groups < GROUPS
    → ((g : ℕ) → group.parent ≡ Some g → g < length m.groups) → IsModel (with_group m group)
IsModel-with_group m group is room above = record {
  few_options = is.few_options;
  few_criteria = is.few_criteria;
  few_groups = omega (arith, length-append m.groups (group ∷ []), room);
  rows = is.rows;
  each_row = is.each_row;
  order_is = is.order_is;
  size = is.size;
  groups_are = λ g a has.
      elim (parent_of-push m.groups group g a has) [
        | inl was ↦ is.groups_are g a was
        | inr new ↦ let low : a < length m.groups = above a new.1 in omega (arith, low, new.0)
      ];
  placed = λ c g has. let low : g < length m.groups = is.placed c g has in omega (arith, length-append m.groups (group ∷ []), low);
}
