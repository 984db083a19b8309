-- A criterion comes and a criterion goes: what a model keeps.
use Rattle.std.proofs.Common.{◌≡◌, ℕ, zero, suc, ◌+◌, ◌<◌, ◌≤◌, ◌++◌, ◌⊎◌, inl, inr, List, [], ◌∷◌, Option, Some, None, map, remove, length, get_or, All, refl, sym, ap, subst, ◌∙◌, arith, length-append}
use Rattle.std.proofs.lemmas.Bool.{cases_lt}
use Rattle.std.proofs.lemmas.List.{length-map, get_or-map}
use Rattle.std.proofs.lemmas.List.Edits.{length-remove, get_or-remove_below, get_or-remove_above}
use Rattle.integers.specs.Counting.{IsOrder}
use Rattle.model_core.specs.State.{CriterionState, ModelState, IsRow, IsModel, no_criterion}
use Rattle.model_core.specs.Edits.{with_criterion, without_criterion}
use Rattle.model_core.specs.declared.limits.TheConstants.{CRITERIA}
use Rattle.model_core.proofs.OrderLemmas.{IsOrder-push, IsOrder-without}

none_some : {e : ℕ} → None ≡ Some e → ⊥
none_some h = cc

-- each item of a mapped list
pub All-map : {A B : Type 0} (P : B → Type 0) (f : A → B) (xs : List A) → All (λ x. P (f x)) xs → All P (map f xs)
All-map P f [] h k d within = absurd (omega (arith, within))
All-map P f (x ∷ xs) h k d within =
    let in_xs : k < length (x ∷ xs) = subst (λ n. k < n) (length-map (x ∷ xs) f) within in
    subst P (sym (get_or-map f (x ∷ xs) k x d in_xs)) (h k x in_xs)

-- a place that holds something is one of the row
in_row : (row : List (Option ℕ)) (c e : ℕ) → get_or row c None ≡ Some e → c < length row
in_row [] zero e h = absurd (none_some h)
in_row [] (suc c) e h = absurd (none_some h)
in_row (x ∷ xs) zero e h = omega arith
in_row (x ∷ xs) (suc c) e h = let below = in_row xs c e h in omega (arith, below)

padded : (row : List (Option ℕ)) (c : ℕ) → get_or (row ++ None ∷ []) c None ≡ get_or row c None
padded [] zero = refl
padded [] (suc zero) = refl
padded [] (suc (suc c)) = refl
padded (x ∷ xs) zero = refl
padded (x ∷ xs) (suc c) = padded xs c

front : {A : Type 0} (xs ys : List A) (c : ℕ) (d : A) → c < length xs → get_or (xs ++ ys) c d ≡ get_or xs c d
front [] ys c d h = absurd (omega (arith, h))
front (x ∷ xs) ys zero d h = refl
front (x ∷ xs) ys (suc c) d h = front xs ys c d (omega (arith, h))

one_more : {A : Type 0} (xs : List A) (x : A) (c : ℕ) (d : A) → (get_or (xs ++ x ∷ []) c d ≡ get_or xs c d) ⊎ (get_or (xs ++ x ∷ []) c d ≡ x)
one_more [] x zero d = inr refl
one_more [] x (suc zero) d = inl refl
one_more [] x (suc (suc c)) d = inl refl
one_more (y ∷ ys) x zero d = inl refl
one_more (y ∷ ys) x (suc c) d = one_more ys x c d

module _ (cs : List CriterionState) (k : CriterionState) where
  IsRow-wider : (row : List (Option ℕ)) → IsRow cs row → IsRow (cs ++ k ∷ []) (row ++ None ∷ [])
  IsRow-wider row h = record {
    each = omega (arith, length-append row (None ∷ []), length-append cs (k ∷ []), h.each);
    performed = λ c e has.
        let was : get_or row c None ≡ Some e = sym (padded row c) ∙ has in
        let low : c < length cs = subst (λ n. c < n) h.each (in_row row c e was) in
        let named = h.performed c e was in
        (named.0, subst (λ x. e ≤ length x.elements) (sym (front cs (k ∷ []) c no_criterion low)) named.1);
  }

pub IsModel-grouped_wider : (m : ModelState) (k : CriterionState) → IsModel m → length m.criteria < CRITERIA
    → ((g : ℕ) → k.group ≡ Some g → g < length m.groups) → IsModel (with_criterion m k)
IsModel-grouped_wider m k is room grouped = record {
  few_options = is.few_options;
  few_criteria = omega (arith, length-append m.criteria (k ∷ []), room);
  few_groups = is.few_groups;
  rows = length-map m.performances (λ row. row ++ None ∷ []) ∙ is.rows;
  each_row = All-map (IsRow (m.criteria ++ k ∷ [])) (λ row. row ++ None ∷ []) m.performances
      (λ i d within. IsRow-wider m.criteria k (get_or m.performances i d) (is.each_row i d within));
  order_is = subst (λ n. IsOrder n (m.order ++ length m.criteria ∷ [])) (sym (length-append m.criteria (k ∷ []))) (IsOrder-push (length m.criteria) m.order is.order_is);
  size = omega (arith, length-append m.criteria (k ∷ []), is.size);
  groups_are = is.groups_are;
  placed = λ c g has.
      elim (one_more m.criteria k c no_criterion) [
        | inl e ↦ is.placed c g (sym (ap (λ x. x.group) e) ∙ has)
        | inr e ↦ grouped g (sym (ap (λ x. x.group) e) ∙ has)
      ];
}

-- one that stands at the root
pub IsModel-wider : (m : ModelState) (k : CriterionState) → IsModel m → length m.criteria < CRITERIA → k.group ≡ None → IsModel (with_criterion m k)
IsModel-wider m k is room root = IsModel-grouped_wider m k is room (λ g has. absurd (none_some (sym root ∙ has)))

-- the places after one that went move up
module _ (cs : List CriterionState) (at : ℕ) (there : at < length cs) where
  moved_up : {A : Type 0} (xs : List A) (c : ℕ) (d : A) → at < length xs
      → ((c < at) × (get_or (remove xs at) c d ≡ get_or xs c d)) ⊎ ((at ≤ c) × (get_or (remove xs at) c d ≡ get_or xs (c + 1) d))
  moved_up xs c d low = elim (cases_lt c at) [
    | inl below ↦ inl (below, get_or-remove_below xs at d c below low)
    | inr above ↦ inr (above, get_or-remove_above xs at d c above low)
  ]

  IsRow-without : (row : List (Option ℕ)) → IsRow cs row → IsRow (remove cs at) (remove row at)
  IsRow-without row h =
      let in_both : at < length row = subst (λ n. at < n) (sym h.each) there in
      record {
        each = omega (arith, length-remove row at in_both, length-remove cs at there, h.each);
        performed = λ c e has.
            elim (moved_up row c None in_both) [
              | inl low ↦
                  let named = h.performed c e (sym low.1 ∙ has) in
                  (named.0, subst (λ x. e ≤ length x.elements) (sym (get_or-remove_below cs at no_criterion c low.0 there)) named.1)
              | inr high ↦
                  let named = h.performed (c + 1) e (sym high.1 ∙ has) in
                  (named.0, subst (λ x. e ≤ length x.elements) (sym (get_or-remove_above cs at no_criterion c high.0 there)) named.1)
            ];
      }

pub IsModel-narrower : (m : ModelState) (at : ℕ) → IsModel m → at < length m.criteria → IsModel (without_criterion m at)
IsModel-narrower m at is there =
    let less : length (remove m.criteria at) + 1 ≡ length m.criteria = length-remove m.criteria at there in
    record {
      few_options = is.few_options;
      few_criteria = omega (arith, less, is.few_criteria);
      few_groups = is.few_groups;
      rows = length-map m.performances (λ row. remove row at) ∙ is.rows;
      each_row = All-map (IsRow (remove m.criteria at)) (λ row. remove row at) m.performances
          (λ i d within. IsRow-without m.criteria at there (get_or m.performances i d) (is.each_row i d within));
      order_is = IsOrder-without (length m.criteria) (length (remove m.criteria at)) m.order at less is.order_is there;
      size = omega (arith, less, is.size, there);
      groups_are = is.groups_are;
      placed = λ c g has.
          elim (moved_up m.criteria at there m.criteria c no_criterion there) [
            | inl low ↦ is.placed c g (sym (ap (λ x. x.group) low.1) ∙ has)
            | inr high ↦ is.placed (c + 1) g (sym (ap (λ x. x.group) high.1) ∙ has)
          ];
    }
