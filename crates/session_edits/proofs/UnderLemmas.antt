-- A group is reached from below in fewer steps than there are groups.
use Rattle.std.proofs.Common.{◌≡◌, ◌↔◌, ℕ, zero, suc, ◌+◌, ◌<◌, ◌≤◌, true, List, length, Option, Some, None, refl, subst, sym, ap, ◌∙◌, arith}
use Rattle.std.specs.List.{range_with_len}
use Rattle.std.proofs.lemmas.Bool.Decides.{Decides-eqb}
use Rattle.std.proofs.lemmas.List.Folds.{list_any_at, Any-from_list_any}
use Rattle.std.proofs.lemmas.List.FromFn.{get_or-range_with_len, length-range_with_len}
use Rattle.model_core.specs.State.{GroupState, parent_of, AreGroups}
use Rattle.model_core.specs.Finding.{ancestor, LiesUnder}
use Rattle.session_edits.specs.Scores.{is_at, is_under}

-- nothing is above the root
root_alone : (groups : List GroupState) (n : ℕ) → ancestor groups n None ≡ None
root_alone groups zero = refl
root_alone groups (suc n) = root_alone groups n

-- each step leads to a group that stands earlier
goes_down : (groups : List GroupState) → AreGroups groups → (n k g : ℕ) → ancestor groups n (Some k) ≡ Some g → g + n ≤ k
goes_down groups are zero k g h = let same : k ≡ g = cc in omega (arith, same)
goes_down groups are (suc n) k g h = by_parent (λ above. goes_down groups are n above g) (parent_of groups k) refl h
  where
    by_parent : ((above : ℕ) → ancestor groups n (Some above) ≡ Some g → g + n ≤ above) → (o : Option ℕ) → parent_of groups k ≡ o
        → ancestor groups n o ≡ Some g → g + suc n ≤ k
    by_parent down None e h = let none = root_alone groups n in absurd (cc)
    by_parent down (Some above) e h = let lower = are k above e in let rest = down above h in omega arith

-- the test of one number of steps
at_is : (o : Option ℕ) (g : ℕ) → is_at g o ≡ true → o ≡ Some g
at_is None g h = absurd (cc)
at_is (Some at) g h = ap Some ((Decides-eqb at g).0 h)

is_at_it : (o : Option ℕ) (g : ℕ) → o ≡ Some g → is_at g o ≡ true
is_at_it None g h = absurd (cc)
is_at_it (Some at) g h = let same : at ≡ g = cc in (Decides-eqb at g).1 same

-- what the test finds
some_step : (groups : List GroupState) (group : Option ℕ) (g : ℕ) → is_under groups group g ≡ true → LiesUnder groups group g
some_step groups group g h =
    let found = Any-from_list_any (λ n. is_at g (ancestor groups n group)) (range_with_len 0 (length groups)) h in
    (found.1, at_is (ancestor groups found.1 group) g found.4)

-- where a group is reached, the test finds it
found_step : (groups : List GroupState) → AreGroups groups → (k g n : ℕ) → k < length groups → ancestor groups n (Some k) ≡ Some g
    → is_under groups (Some k) g ≡ true
found_step groups are k g n within h =
    let few = goes_down groups are n k g h in
    let inside : n < length groups = omega arith in
    let same : 0 + n ≡ n = omega arith in
    list_any_at (λ n. is_at g (ancestor groups n (Some k))) (range_with_len 0 (length groups)) n 0
    (subst (λ l. n < l) (sym (length-range_with_len 0 (length groups))) inside)
    (subst (λ i. is_at g (ancestor groups i (Some k)) ≡ true) (sym (get_or-range_with_len 0 (length groups) n 0 inside ∙ same)) (is_at_it (ancestor groups n (Some k)) g h))

-- the test decides whether a group is reached
pub is_under_iff : (groups : List GroupState) → AreGroups groups → (group : Option ℕ) (g : ℕ)
    → ((k : ℕ) → group ≡ Some k → k < length groups) → (is_under groups group g ≡ true) ↔ LiesUnder groups group g
is_under_iff groups are group g within = (some_step groups group g, back group within)
  where
    back : (group : Option ℕ) → ((k : ℕ) → group ≡ Some k → k < length groups) → LiesUnder groups group g → is_under groups group g ≡ true
    back None within h = let none = root_alone groups h.0 in let no = h.1 in absurd (cc)
    back (Some k) within h = found_step groups are k g h.0 (within k refl) h.1
