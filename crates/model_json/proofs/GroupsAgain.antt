-- Groups that were written are read as the same groups.
use Rattle.std.proofs.Common.{◌≡◌, ℕ, suc, ◌+◌, ◌<◌, ◌≤◌, arith, true, List, [], ◌∷◌, ◌++◌, length, map, nat_lt, Option, None, Some, option_map, Ok, refl, sym, ap, subst, ◌∙◌, codes}
use Rattle.std.specs.Option.{option_and_then}
use Rattle.std.specs.List.{AllByRecursion}
use Rattle.std.proofs.lemmas.Bool.Decides.{nat_tests}
use Rattle.std.proofs.lemmas.List.{length-append}
use Rattle.serde_json.specs.Data.{Data, string, object, member, no_members}
use Rattle.serde_json.specs.View.{items_of}
use Rattle.judgement_matrix.proofs.EveryLemmas.{every-append_right}
use Rattle.model_core.specs.Names.{is_name}
use Rattle.model_core.specs.Lists.{AreNamedApart, find}
use Rattle.model_core.specs.State.{GroupState, ModelState, AreGroups, parent_of, empty_model}
use Rattle.model_core.specs.Edits.{with_group}
use Rattle.model_core.specs.declared.limits.TheConstants.{GROUPS}
use Rattle.model_json.specs.declared.place.Place.{Place}
use Rattle.model_json.specs.declared.place.Place.TheVariants as place
use Rattle.frac128.specs.Chain.{◌>>=◌, found_or}
use Rattle.model_json.specs.Steps.{each_into}
use Rattle.model_json.specs.Reading.{group_or_root, group_of}
use Rattle.model_json.specs.Writing.{group_name, with_group_key, group_data}
use Rattle.model_json.proofs.EachAgain.{each_again}
use Rattle.model_json.proofs.NamesAgain.{name_again, new_name, found_before, get-seam}

abbrev pub no_group : GroupState
no_group = record { name = []; parent = None }

-- the model of which only the groups were read
abbrev pub with_groups : List GroupState → ModelState
with_groups groups = record empty_model { groups = groups }

-- a key that names this group
pub found_group : (at_place : Place) (before : ModelState) (name : List ℕ) (g : ℕ) → find (λ x. x.name) before.groups name ≡ Some g
    → group_or_root at_place before (Some (string name)) ≡ Ok (Some g)
found_group at_place before name g there = ap (λ o. found_or at_place o >>= (λ k. Ok (Some k))) there

parent_again : (at_place : Place) (m : ModelState) (seen rest : List GroupState) (parent : Option ℕ) → seen ++ rest ≡ m.groups
    → AreNamedApart (λ g. g.name) m.groups
    → ((above : ℕ) → parent ≡ Some above → above < length seen)
    → group_or_root at_place (with_groups seen) (option_map (λ g. string (group_name m g)) parent) ≡ Ok parent
parent_again at_place m seen rest None e apart earlier = refl
parent_again at_place m seen rest (Some above) e apart earlier =
    found_group at_place (with_groups seen) (group_name m above) above
    (found_before (λ g. g.name) seen rest m.groups above no_group e apart (earlier above refl))

-- the value of a group under this parent
abbrev data_under : ModelState → List ℕ → Option ℕ → Data
data_under m name parent = object (member (codes "name") (string name) (with_group_key m (codes "parent") parent no_members))

under_again : (m before : ModelState) (i : ℕ) (name : List ℕ) (parent : Option ℕ) → nat_lt i GROUPS ≡ true → is_name name ≡ true
    → find (λ g. g.name) before.groups name ≡ None
    → group_or_root (place.GroupParent i) before (option_map (λ g. string (group_name m g)) parent) ≡ Ok parent
    → group_of i before (data_under m name parent) ≡ Ok (with_group before (record { name = name; parent = parent }))
unfolding group_of
under_again m before i name None room valid free above = rw (room, name_again (place.GroupName i) name valid, free) refl
under_again m before i name (Some g) room valid free above = rw (room, name_again (place.GroupName i) name valid, free, above) refl

module _ (m : ModelState) (few : length m.groups ≤ GROUPS) (apart : AreNamedApart (λ g. g.name) m.groups) (earlier : AreGroups m.groups)
    (named : AllByRecursion (λ g. is_name g.name ≡ true) m.groups) where
  -- a group behind those before it
  group_again : (seen : List GroupState) (g : GroupState) (rest : List GroupState) → seen ++ g ∷ rest ≡ m.groups
      → group_of (length seen) (with_groups seen) (group_data m g) ≡ Ok (with_groups (seen ++ g ∷ []))
  unfolding group_data
  group_again seen g rest e =
      let all : length m.groups ≡ length seen + suc (length rest) = ap length (sym e) ∙ length-append seen (g ∷ rest) in
      let room : nat_lt (length seen) GROUPS ≡ true = grind (arith, nat_tests) in
      let name : is_name g.name ≡ true = (every-append_right (λ x. is_name x.name ≡ true) seen (g ∷ rest)
      (subst (AllByRecursion (λ x. is_name x.name ≡ true)) (sym e) named)).0 in
      let above : (k : ℕ) → g.parent ≡ Some k → k < length seen =
      λ k h. earlier (length seen) k (ap (λ gs. parent_of gs (length seen)) (sym e) ∙ ap (option_and_then (λ x. x.parent)) (get-seam seen g rest) ∙ h) in
      let free : find (λ x. x.name) seen g.name ≡ None = new_name (λ x. x.name) seen g rest m.groups e apart in
      under_again m (with_groups seen) (length seen) g.name g.parent room name free
      (parent_again (place.GroupParent (length seen)) m seen (g ∷ rest) g.parent e apart above)

  pub groups_again : each_into group_of 0 empty_model (items_of (map (group_data m) m.groups)) ≡ Ok (with_groups m.groups)
  groups_again = each_again group_of (group_data m) with_groups m.groups group_again [] m.groups refl
