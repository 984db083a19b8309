-- What a model keeps, through each change.
use Rattle.std.proofs.Common.{◌≡◌, ℕ, zero, suc, ◌+◌, ◌<◌, ◌≤◌, ◌⊎◌, inl, inr, List, [], ◌∷◌, Option, Some, None, length, get_or, slice_get, slice_set, refl, sym, ap, subst, ◌∙◌, arith, rules}
use Rattle.std.specs.List.{IsDistinct}
use Rattle.std.specs.Option.{option_and_then, IfSome}
use Rattle.std.proofs.lemmas.Option.{get_or_from_slice_get}
use Rattle.judgement_matrix.specs.Matrix.{Judgements, unjudged}
use Rattle.model_core.specs.Lists.{changed_at}
use Rattle.model_core.specs.declared.limits.TheConstants.{CRITERIA, GROUPS}
use Rattle.integers.specs.Counting.{IsOrder}
use Rattle.model_core.specs.State.{CriterionState, GroupState, ModelState, IsModel, AreGroups, no_criterion, elements_of, parent_of}

pub IsModel-empty : IsModel (record { options = []; criteria = []; groups = []; performances = []; order = []; weighting = unjudged 1 })
unfolding IsDistinct
IsModel-empty = record {
  few_options = search rules;
  few_criteria = search rules;
  few_groups = search rules;
  rows = refl;
  each_row = λ k d within. absurd (omega (arith, within));
  order_is = record { each = refl; within = λ k d within. absurd (omega (arith, within)); once = tt };
  size = refl;
  groups_are = λ g above is. absurd (none_parent g above is);
  placed = λ c g is. absurd (none_placed c g is);
}
  where
    none_parent : (g above : ℕ) → parent_of [] g ≡ Some above → ⊥
    none_parent zero above h = cc
    none_parent (suc g) above h = cc

    none_placed : (c g : ℕ) → (get_or [] c no_criterion).group ≡ Some g → ⊥
    none_placed zero g h = cc
    none_placed (suc c) g h = cc

some_if : (o : Option ℕ) (P : ℕ → Type 0) → ((g : ℕ) → o ≡ Some g → P g) → IfSome o P
some_if None P h = tt
some_if (Some g) P h = h g refl

pub if_some : (o : Option ℕ) (P : ℕ → Type 0) (g : ℕ) → o ≡ Some g → IfSome o P → P g
if_some None P g e h = cc
if_some (Some k) P g e h = subst P (same k g e) h
  where
    same : (a b : ℕ) → Some a ≡ Some b → a ≡ b
    same a b i = cc

-- the group of the criterion that was read
pub placed_read : (m : ModelState) → IsModel m → (c : ℕ) (x : CriterionState) → slice_get m.criteria c ≡ Some x → IfSome x.group (λ g. g < length m.groups)
placed_read m is c x at =
    some_if x.group (λ g. g < length m.groups) (λ g e. is.placed c g (ap (λ k. k.group) (get_or_from_slice_get m.criteria c x no_criterion at) ∙ e))

-- the parent of the group that was read
pub above_read : (m : ModelState) → IsModel m → (g : ℕ) (x : GroupState) → slice_get m.groups g ≡ Some x → IfSome x.parent (λ above. above < g)
above_read m is g x at =
    some_if x.parent (λ above. above < g) (λ above e. is.groups_are g above (ap (option_and_then (λ k. k.parent)) at ∙ e))

-- other criteria with the same elements, and other groups
pub IsModel-recast : (m : ModelState) (cs : List CriterionState) (gs : List GroupState) → IsModel m → length cs ≡ length m.criteria
    → ((k : ℕ) → elements_of cs k ≡ elements_of m.criteria k) → length gs ≤ GROUPS → AreGroups gs
    → ((c g : ℕ) → (get_or cs c no_criterion).group ≡ Some g → g < length gs) → IsModel (record m { criteria = cs; groups = gs })
IsModel-recast m cs gs is each same few groups placed = record {
  few_options = is.few_options;
  few_criteria = subst (λ n. n ≤ CRITERIA) (sym each) is.few_criteria;
  few_groups = few;
  rows = is.rows;
  each_row = λ k d within. record {
    each = (is.each_row k d within).each ∙ sym each;
    performed = λ c e has.
        let was = (is.each_row k d within).performed c e has in
        (was.0, subst (λ es. e ≤ length es) (sym (same c)) was.1);
  };
  order_is = subst (λ n. IsOrder n m.order) (sym each) is.order_is;
  size = is.size ∙ ap (λ n. n + 1) (sym each);
  groups_are = groups;
  placed = placed;
}

-- a change of one thing leaves their number
pub length-changed : {T : Type 0} (f : T → T) (xs : List T) (i : ℕ) → length (changed_at f xs i) ≡ length xs
length-changed f [] i = refl
length-changed f (x ∷ xs) zero = refl
length-changed f (x ∷ xs) (suc i) = ap suc (length-changed f xs i)

-- a change of a criterion that leaves its elements
module _ (f : CriterionState → CriterionState) (keeps : (x : CriterionState) → (f x).elements ≡ x.elements) where
  elements-changed : (cs : List CriterionState) (at k : ℕ) → elements_of (changed_at f cs at) k ≡ elements_of cs k
  elements-changed [] at k = refl
  elements-changed (x ∷ xs) zero zero = keeps x
  elements-changed (x ∷ xs) zero (suc k) = refl
  elements-changed (x ∷ xs) (suc at) zero = refl
  elements-changed (x ∷ xs) (suc at) (suc k) = elements-changed xs at k

  group-changed : (n : ℕ) (stays : (x : CriterionState) (g : ℕ) → (f x).group ≡ Some g → (x.group ≡ Some g) ⊎ (g < n)) → (cs : List CriterionState) (at k g : ℕ)
      → (get_or (changed_at f cs at) k no_criterion).group ≡ Some g → ((get_or cs k no_criterion).group ≡ Some g) ⊎ (g < n)
  group-changed n stays [] at k g is = inl is
  group-changed n stays (x ∷ xs) zero zero g is = stays x g is
  group-changed n stays (x ∷ xs) zero (suc k) g is = inl is
  group-changed n stays (x ∷ xs) (suc at) zero g is = inl is
  group-changed n stays (x ∷ xs) (suc at) (suc k) g is = group-changed n stays xs at k g is

  pub IsModel-changed : (m : ModelState) → ((x : CriterionState) (g : ℕ) → (f x).group ≡ Some g → (x.group ≡ Some g) ⊎ (g < length m.groups)) → IsModel m
      → (at : ℕ) (cs : List CriterionState) → cs ≡ changed_at f m.criteria at → IsModel (record m { criteria = cs })
  IsModel-changed m stays is at cs change = subst (λ ks. IsModel (record m { criteria = ks })) (sym change)
      (IsModel-recast m (changed_at f m.criteria at) m.groups is (length-changed f m.criteria at) (elements-changed m.criteria at) is.few_groups is.groups_are
      (λ c g has. elim (group-changed (length m.groups) stays m.criteria at c g has) [
        | inl was ↦ is.placed c g was
        | inr low ↦ low
      ]))

-- a write of the changed thing in its place
pub set-changed : {A : Type 0} (f : A → A) (xs : List A) (i : ℕ) (d : A) → i < length xs → slice_set xs i (f (get_or xs i d)) ≡ changed_at f xs i
set-changed f [] i d within = absurd (omega arith)
set-changed f (x ∷ xs) zero d within = refl
set-changed f (x ∷ xs) (suc i) d within = ap (λ ys. x ∷ ys) (set-changed f xs i d (omega arith))

-- a model with the same parts
pub IsModel-parts : (m : ModelState) → IsModel m
    → (options : List (List ℕ)) (criteria : List CriterionState) (groups : List GroupState) (rows : List (List (Option ℕ))) (order : List ℕ) (w : Judgements)
    → options ≡ m.options → criteria ≡ m.criteria → groups ≡ m.groups → rows ≡ m.performances → order ≡ m.order → w ≡ m.weighting
    → IsModel (record { options = options; criteria = criteria; groups = groups; performances = rows; order = order; weighting = w })
IsModel-parts m is options criteria groups rows order w o c g p n e = subst IsModel (λ i. record {
  options = sym o i;
  criteria = sym c i;
  groups = sym g i;
  performances = sym p i;
  order = sym n i;
  weighting = sym e i;
}) is
