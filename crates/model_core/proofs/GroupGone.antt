-- A group goes: what a model keeps.
use Rattle.std.proofs.Common.{◌≡◌, ℕ, zero, suc, ◌+◌, ◌-◌, ◌<◌, ◌≤◌, ◌⊎◌, inl, inr, true, false, ◌==◌, List, [], ◌∷◌, Option, Some, None, nat_lt, map, remove, length, get_or, if◌then◌else◌, refl, sym, ◌∙◌, arith}
use Rattle.std.proofs.lemmas.Bool.Decides.{nat_tests}
use Rattle.std.proofs.lemmas.List.{length-map}
use Rattle.std.proofs.lemmas.List.Edits.{length-remove}
use Rattle.model_core.specs.State.{CriterionState, GroupState, ModelState, IsModel, AreGroups, no_criterion, elements_of, parent_of}
use Rattle.model_core.specs.Edits.{moved, regrouped, reparented, without_group}
use Rattle.model_core.proofs.KeepLemmas.{IsModel-recast}

none_some : {e : ℕ} → None ≡ Some e → ⊥
none_some h = cc

some_same : (a b : ℕ) → Some a ≡ Some b → a ≡ b
some_same a b h = cc

-- where something was that stands somewhere after a group went
moved_from : (g : ℕ) (above r : Option ℕ) (a : ℕ) → moved g above r ≡ Some a
    → (k : ℕ) × (r ≡ Some k) × (((k ≡ g) × (above ≡ Some a)) ⊎ (((g < k) × (a ≡ k - 1)) ⊎ ((k < g) × (a ≡ k))))
moved_from g above None a h = absurd (none_some h)
moved_from g above (Some k) a h = (
  k,
  refl,
  elim (k == g) as (λ t. (k == g) ≡ t → (if t then above else (if nat_lt g k then Some (k - 1) else Some k)) ≡ Some a
      → ((k ≡ g) × (above ≡ Some a)) ⊎ (((g < k) × (a ≡ k - 1)) ⊎ ((k < g) × (a ≡ k)))) [
        | true ↦ λ e i. inl (grind (arith, nat_tests), i)
        | false ↦ λ e i. elim (nat_lt g k) as (λ t. nat_lt g k ≡ t → (if t then Some (k - 1) else Some k) ≡ Some a
            → ((k ≡ g) × (above ≡ Some a)) ⊎ (((g < k) × (a ≡ k - 1)) ⊎ ((k < g) × (a ≡ k)))) [
              | true ↦ λ f j. inr (inl (grind (arith, nat_tests), sym (some_same (k - 1) a j)))
              | false ↦ λ f j. inr (inr (grind (arith, nat_tests), sym (some_same k a j)))
            ] refl i
      ] refl h,
)

parent_of-map : (g : ℕ) (above : Option ℕ) (xs : List GroupState) (k : ℕ) → parent_of (map (reparented g above) xs) k ≡ moved g above (parent_of xs k)
parent_of-map g above [] zero = refl
parent_of-map g above [] (suc k) = refl
parent_of-map g above (x ∷ xs) zero = refl
parent_of-map g above (x ∷ xs) (suc k) = parent_of-map g above xs k

parent_of-remove : (xs : List GroupState) (g k : ℕ)
    → ((k < g) × (parent_of (remove xs g) k ≡ parent_of xs k)) ⊎ ((g ≤ k) × (parent_of (remove xs g) k ≡ parent_of xs (suc k)))
parent_of-remove [] zero zero = inr (omega arith, refl)
parent_of-remove [] zero (suc k) = inr (omega arith, refl)
parent_of-remove [] (suc g) zero = inl (omega arith, refl)
parent_of-remove [] (suc g) (suc k) = elim (parent_of-remove [] g k) [
  | inl below ↦ inl (omega (arith, below.0), refl)
  | inr above ↦ inr (omega (arith, above.0), refl)
]
parent_of-remove (x ∷ xs) zero k = inr (omega arith, refl)
parent_of-remove (x ∷ xs) (suc g) zero = inl (omega arith, refl)
parent_of-remove (x ∷ xs) (suc g) (suc k) = elim (parent_of-remove xs g k) [
  | inl below ↦ inl (omega (arith, below.0), below.1)
  | inr above ↦ inr (omega (arith, above.0), above.1)
]

elements-regrouped : (g : ℕ) (above : Option ℕ) (cs : List CriterionState) (k : ℕ) → elements_of (map (regrouped g above) cs) k ≡ elements_of cs k
elements-regrouped g above [] k = refl
elements-regrouped g above (x ∷ xs) zero = refl
elements-regrouped g above (x ∷ xs) (suc k) = elements-regrouped g above xs k

group-regrouped : (g : ℕ) (above : Option ℕ) (cs : List CriterionState) (k : ℕ)
    → (get_or (map (regrouped g above) cs) k no_criterion).group ≡ moved g above (get_or cs k no_criterion).group
group-regrouped g above [] zero = refl
group-regrouped g above [] (suc k) = refl
group-regrouped g above (x ∷ xs) zero = refl
group-regrouped g above (x ∷ xs) (suc k) = group-regrouped g above xs k

module _ (groups : List GroupState) (are : AreGroups groups) (g : ℕ) where
  AreGroups-without : AreGroups (map (reparented g (parent_of groups g)) (remove groups g))
  AreGroups-without k a is =
      let from = moved_from g (parent_of groups g) (parent_of (remove groups g) k) a (sym (parent_of-map g (parent_of groups g) (remove groups g) k) ∙ is) in
      elim (parent_of-remove groups g k) [
        | inl low ↦
            let was : from.0 < k = are k from.0 (sym low.1 ∙ from.1) in
            elim from.2 [
              | inl own ↦ absurd (omega (arith, was, own.0, low.0))
              | inr other ↦ elim other [
                | inl high ↦ omega (arith, was, high.0, high.1)
                | inr same ↦ omega (arith, was, same.1)
              ]
            ]
        | inr high ↦
            let was : from.0 < suc k = are (suc k) from.0 (sym high.1 ∙ from.1) in
            elim from.2 [
              | inl own ↦ let above : a < g = are g a own.1 in omega (arith, above, high.0)
              | inr other ↦ elim other [
                | inl more ↦ omega (arith, was, more.0, more.1)
                | inr same ↦ omega (arith, same.0, same.1, high.0)
              ]
            ]
      ]

pub IsModel-ungrouped : (m : ModelState) (g : ℕ) → IsModel m → g < length m.groups → IsModel (without_group m g (parent_of m.groups g))
IsModel-ungrouped m g is there =
    let above = parent_of m.groups g in
    let less : length (remove m.groups g) + 1 ≡ length m.groups = length-remove m.groups g there in
    let width : length (map (reparented g above) (remove m.groups g)) ≡ length (remove m.groups g) = length-map (remove m.groups g) (reparented g above) in
    IsModel-recast m (map (regrouped g above) m.criteria) (map (reparented g above) (remove m.groups g)) is
    (length-map m.criteria (regrouped g above)) (elements-regrouped g above m.criteria) (omega (arith, width, less, is.few_groups))
    (AreGroups-without m.groups is.groups_are g)
    (λ c a has.
    let from = moved_from g above (get_or m.criteria c no_criterion).group a (sym (group-regrouped g above m.criteria c) ∙ has) in
    let low : from.0 < length m.groups = is.placed c from.0 from.1 in
    elim from.2 [
      | inl own ↦ let higher : a < g = is.groups_are g a own.1 in omega (arith, higher, there, less, width)
      | inr other ↦ elim other [
        | inl more ↦ omega (arith, low, more.0, more.1, less, width)
        | inr same ↦ omega (arith, same.0, same.1, there, less, width)
      ]
    ])
