-- The weighting order: each of the first n numbers once.
use Rattle.std.proofs.Common.{◌≡◌, ℕ, suc, ◌+◌, ◌-◌, ◌<◌, ◌≤◌, ◌⊎◌, inl, inr, ◌++◌, ◌||◌, ◌&&◌, ◌==◌, Bool, true, false, not, cond, List, [], ◌∷◌, Some, None, unwrap_or, position, map, remove, length, get_or, nat_lt, eqb, if◌then◌else◌, All, refl, sym, ap, subst, ◌∙◌, arith, length-append}
use Rattle.std.specs.Cmp.{nat_eq_equiv}
use Rattle.std.specs.List.{IsDistinct, AllByRecursion, list_any, list_all, prefix_len, position_or_len}
use Rattle.std.proofs.lemmas.Bool.{cases_lt}
use Rattle.std.proofs.lemmas.Bool.Decides.{nat_tests}
use Rattle.std.proofs.lemmas.List.{length-map, get_or-map}
use Rattle.std.proofs.lemmas.List.Edits.{length-remove, get_or-remove_below, get_or-remove_above}
use Rattle.std.proofs.lemmas.List.Elements.{All-push, recursion_from_All}
use Rattle.std.proofs.lemmas.List.Folds.{list_any_none}
use Rattle.std.proofs.lemmas.List.Sums.{prefix_len-le-length}
use Rattle.std.proofs.lemmas.Map.Keys.{IsDistinct-cons, IsDistinct-push, IsDistinct-from_apart, apart_from_distinct}
use Rattle.std.proofs.lemmas.Map.Steps.{length-le_from_distinct_below}
use Rattle.integers.specs.Counting.{IsOrder}
use Rattle.model_core.specs.Edits.{are_numbers_apart, is_permutation}

first_of : (a b : ℕ) → a ≤ b → unwrap_or (cond (nat_lt a b) (Some a) None) b ≡ a
first_of a b h = elim (nat_lt a b) as (λ t. nat_lt a b ≡ t → unwrap_or (cond t (Some a) None) b ≡ a) [
  | true ↦ λ e. refl
  | false ↦ λ e. grind (arith, nat_tests)
] refl

-- the first place, or the length
pub first_is : {A : Type 0} (p : A → Bool) (xs : List A) → unwrap_or (position p xs) (length xs) ≡ position_or_len p xs
first_is p xs = first_of (position_or_len p xs) (length xs) (prefix_len-le-length (λ x. not (p x)) xs)

below_in : (n q : ℕ) (xs : List ℕ) → AllByRecursion (λ c. c < n) xs → list_any (eqb q) xs ≡ true → q < n
below_in n q [] h is = cc
below_in n q (x ∷ xs) h is = elim (eqb q x) as (λ t. eqb q x ≡ t → (t || list_any (eqb q) xs) ≡ true → q < n) [
  | true ↦ λ e i. let below : x < n = h.0 in grind (arith, nat_tests)
  | false ↦ λ e i. below_in n q xs h.1 i
] refl is

none_there : (c : ℕ) (xs : List ℕ) → length xs ≤ prefix_len (λ d. not (d == c)) xs → AllByRecursion (λ d. eqb c d ≡ false) xs
none_there c [] h = tt
none_there c (d ∷ ds) h =
    elim (d == c) as (λ t. (d == c) ≡ t → suc (length ds) ≤ cond (not t) (1 + prefix_len (λ d. not (d == c)) ds) 0 → (eqb c d ≡ false) × AllByRecursion (λ d. eqb c d ≡ false) ds) [
      | true ↦ λ e i. absurd (omega (arith, i))
      | false ↦ λ e i. (grind (arith, nat_tests), none_there c ds (omega (arith, i)))
    ] refl h

module _ (n : ℕ) (order : List ℕ) (is : IsOrder n order) (c : ℕ) (low : c < n) where
  -- each number stands somewhere
  pub stands : position_or_len (λ d. d == c) order < n
  stands = elim (cases_lt (position_or_len (λ d. d == c) order) n) [
    | inl below ↦ below
    | inr past ↦
        let missing : AllByRecursion (λ d. eqb c d ≡ false) order = none_there c order (subst (λ k. k ≤ position_or_len (λ d. d == c) order) (sym is.each) past) in
        let more : suc (length order) ≤ n = length-le_from_distinct_below (c ∷ order) n (IsDistinct-cons eqb c order missing is.once)
        (λ q among. below_in n q (c ∷ order) (low, recursion_from_All (λ d. d < n) order is.within) among) in
        absurd (omega (arith, more, is.each))
  ]

-- one more number, the next one
pub IsOrder-push : (n : ℕ) (order : List ℕ) → IsOrder n order → IsOrder (n + 1) (order ++ n ∷ [])
IsOrder-push n order is = record {
  each = omega (arith, length-append order (n ∷ []), is.each);
  within = All-push (λ c. c < n + 1) order n (λ k d low. let below = is.within k d low in omega (arith, below)) (omega arith);
  once = IsDistinct-push nat_eq_equiv order n is.once
      (list_any_none (eqb n) order (λ k d low. let below : get_or order k d < n = is.within k d low in grind (arith, nat_tests)));
}

-- the number at a place from which another number is gone
skip : ℕ → ℕ → ℕ
skip w i = if nat_lt i w then i else i + 1

skip_cases : (w i : ℕ) → ((i < w) × (skip w i ≡ i)) ⊎ ((w ≤ i) × (skip w i ≡ i + 1))
unfolding skip
skip_cases w i = elim (nat_lt i w) as (λ t. nat_lt i w ≡ t → ((i < w) × ((if t then i else i + 1) ≡ i)) ⊎ ((w ≤ i) × ((if t then i else i + 1) ≡ i + 1))) [
  | true ↦ λ e. inl (grind (arith, nat_tests), refl)
  | false ↦ λ e. inr (grind (arith, nat_tests), refl)
] refl

get_or-skip : (xs : List ℕ) (w i d : ℕ) → w < length xs → get_or (remove xs w) i d ≡ get_or xs (skip w i) d
get_or-skip xs w i d low = elim (skip_cases w i) [
  | inl below ↦ get_or-remove_below xs w d i below.0 low ∙ ap (λ k. get_or xs k d) (sym below.1)
  | inr above ↦ get_or-remove_above xs w d i above.0 low ∙ ap (λ k. get_or xs k d) (sym above.1)
]

plus_one : (n : ℕ) → suc n ≡ 1 + n
plus_one n = omega arith

-- what is found at the first place
found_there : (c : ℕ) (xs : List ℕ) → position_or_len (λ d. d == c) xs < length xs → (e : ℕ) → get_or xs (position_or_len (λ d. d == c) xs) e ≡ c
found_there c [] low e = absurd (omega (arith, low))
found_there c (x ∷ xs) low e =
    elim (x == c) as (λ t. (x == c) ≡ t → cond (not t) (1 + prefix_len (λ d. not (d == c)) xs) 0 < suc (length xs) → get_or (x ∷ xs) (cond (not t) (1 + prefix_len (λ d. not (d == c)) xs) 0) e ≡ c) [
      | true ↦ λ is l. grind (arith, nat_tests)
      | false ↦ λ is l. subst (λ n. get_or (x ∷ xs) n e ≡ c) (plus_one (prefix_len (λ d. not (d == c)) xs)) (found_there c xs (omega (arith, l)) e)
    ] refl low

skip_within : (xs : List ℕ) (w i : ℕ) → i + 1 < length xs + 0 → skip w i < length xs
skip_within xs w i low = elim (skip_cases w i) [
  | inl a ↦ subst (λ x. x < length xs) (sym a.1) (omega (arith, low))
  | inr a ↦ subst (λ x. x < length xs) (sym a.1) (omega (arith, low))
]

skip_before : (w i j : ℕ) → i < j → skip w i < skip w j
skip_before w i j before = elim (skip_cases w i) [
  | inl a ↦ elim (skip_cases w j) [
    | inl b ↦ omega (arith, before, a.1, b.1)
    | inr b ↦ omega (arith, before, a.1, b.1)
  ]
  | inr a ↦ elim (skip_cases w j) [
    | inl b ↦ omega (arith, before, a.0, b.0)
    | inr b ↦ omega (arith, before, a.1, b.1)
  ]
]

-- the other places hold other numbers
elsewhere : (xs : List ℕ) (w c d i : ℕ) → IsDistinct eqb xs → w < length xs → get_or xs w d ≡ c → i + 1 < length xs + 0 → eqb c (get_or xs (skip w i) d) ≡ false
elsewhere xs w c d i once there here low = elim (skip_cases w i) [
  | inl a ↦ subst (λ x. eqb x (get_or xs (skip w i) d) ≡ false) here
      (subst (λ k. eqb (get_or xs w d) (get_or xs k d) ≡ false) (sym a.1)
      (nat_eq_equiv.symm (get_or xs w d) (get_or xs i d) ∙ apart_from_distinct eqb xs i w d once a.0 there))
  | inr a ↦ subst (λ x. eqb x (get_or xs (skip w i) d) ≡ false) here
      (subst (λ k. eqb (get_or xs w d) (get_or xs k d) ≡ false) (sym a.1)
      (apart_from_distinct eqb xs w (i + 1) d once (omega (arith, a.0)) (omega (arith, low))))
]

lowered : ℕ → ℕ → ℕ
lowered c d = if nat_lt c d then d - 1 else d

lowered_cases : (c d : ℕ) → (eqb c d ≡ false) → ((d < c) × (lowered c d ≡ d)) ⊎ ((c < d) × (lowered c d ≡ d - 1))
unfolding lowered
lowered_cases c d other = elim (nat_lt c d) as (λ t. nat_lt c d ≡ t → ((d < c) × ((if t then d - 1 else d) ≡ d)) ⊎ ((c < d) × ((if t then d - 1 else d) ≡ d - 1))) [
  | true ↦ λ e. inr (grind (arith, nat_tests), refl)
  | false ↦ λ e. inl (grind (arith, nat_tests), refl)
] refl

apart_lowered : (c x y : ℕ) → eqb c x ≡ false → eqb c y ≡ false → eqb x y ≡ false → eqb (lowered c x) (lowered c y) ≡ false
apart_lowered c x y p q r = elim (lowered_cases c x p) [
  | inl a ↦ elim (lowered_cases c y q) [
    | inl b ↦ grind (arith, nat_tests, a.0, a.1, b.0, b.1)
    | inr b ↦ grind (arith, nat_tests, a.0, a.1, b.0, b.1)
  ]
  | inr a ↦ elim (lowered_cases c y q) [
    | inl b ↦ grind (arith, nat_tests, a.0, a.1, b.0, b.1)
    | inr b ↦ grind (arith, nat_tests, a.0, a.1, b.0, b.1)
  ]
]

lowered_below : (c d n k : ℕ) → eqb c d ≡ false → d < n → c < n → k + 1 ≡ n → lowered c d < k
lowered_below c d n k other low here less = elim (lowered_cases c d other) [
  | inl a ↦ subst (λ x. x < k) (sym a.1) (omega (arith, a.0, low, here, less))
  | inr a ↦ subst (λ x. x < k) (sym a.1) (omega (arith, a.0, low, here, less))
]

-- a number goes, and those above it move down
pub IsOrder-without : (n k : ℕ) (order : List ℕ) (c : ℕ) → k + 1 ≡ n → IsOrder n order → c < n
    → IsOrder k (map (λ d. if nat_lt c d then d - 1 else d) (remove order (position_or_len (λ d. d == c) order)))
unfolding lowered
IsOrder-without n k order c less is low =
    let w = position_or_len (λ d. d == c) order in
    let there : w < length order = subst (λ x. w < x) (sym is.each) (stands n order is c low) in
    let short : length (remove order w) + 1 ≡ length order = length-remove order w there in
    let width : length (remove order w) ≡ k = omega (arith, short, less, is.each) in
    let here : (d : ℕ) → get_or order w d ≡ c = λ d. found_there c order there d in
    let other : (i d : ℕ) → i < length (remove order w) → eqb c (get_or (remove order w) i d) ≡ false = λ i d within.
    subst (λ x. eqb c x ≡ false) (sym (get_or-skip order w i d there)) (elsewhere order w c d i is.once there (here d) (omega (arith, within, short))) in
    record {
      each = length-map (remove order w) (lowered c) ∙ width;
      within = λ i d within.
          let in_rest : i < length (remove order w) = subst (λ x. i < x) (length-map (remove order w) (lowered c)) within in
          let below : get_or order (skip w i) 0 < n = is.within (skip w i) 0 (skip_within order w i (omega (arith, in_rest, short))) in
          subst (λ x. x < k) (sym (get_or-map (lowered c) (remove order w) i 0 d in_rest))
          (lowered_below c (get_or (remove order w) i 0) n k (other i 0 in_rest) (subst (λ x. x < n) (sym (get_or-skip order w i 0 there)) below) low less);
      once = IsDistinct-from_apart eqb (map (lowered c) (remove order w)) (λ i j d before within.
          let in_rest : j < length (remove order w) = subst (λ x. j < x) (length-map (remove order w) (lowered c)) within in
          let first : i < length (remove order w) = omega (arith, before, in_rest) in
          let differ : eqb (get_or (remove order w) i 0) (get_or (remove order w) j 0) ≡ false =
          subst (λ x. eqb x (get_or (remove order w) j 0) ≡ false) (sym (get_or-skip order w i 0 there))
          (subst (λ x. eqb (get_or order (skip w i) 0) x ≡ false) (sym (get_or-skip order w j 0 there))
          (apart_from_distinct eqb order (skip w i) (skip w j) 0 is.once (skip_before w i j before) (skip_within order w j (omega (arith, in_rest, short))))) in
          subst (λ x. eqb x (get_or (map (lowered c) (remove order w)) j d) ≡ false) (sym (get_or-map (lowered c) (remove order w) i 0 d first))
          (subst (λ x. eqb (lowered c (get_or (remove order w) i 0)) x ≡ false) (sym (get_or-map (lowered c) (remove order w) j 0 d in_rest))
          (apart_lowered c (get_or (remove order w) i 0) (get_or (remove order w) j 0) (other i 0 first) (other j 0 in_rest) differ)));
    }

both : (a b : Bool) → (a && b) ≡ true → (a ≡ true) × (b ≡ true)
both true b h = (refl, h)
both false b h = cc

not_equal : (c : ℕ) (xs : List ℕ) → list_all (λ d. not (c == d)) xs ≡ true → AllByRecursion (λ d. eqb c d ≡ false) xs
not_equal c [] h = tt
not_equal c (d ∷ ds) h =
    let parts = both (not (c == d)) (list_all (λ e. not (c == e)) ds) h in
    (is_false (c == d) parts.0, not_equal c ds parts.1)
  where
    is_false : (b : Bool) → not b ≡ true → b ≡ false
    is_false true e = cc
    is_false false e = refl

numbers_apart : (xs : List ℕ) → are_numbers_apart xs ≡ true → IsDistinct eqb xs
unfolding IsDistinct
numbers_apart [] h = tt
numbers_apart (c ∷ cs) h =
    let parts = both (list_all (λ d. not (c == d)) cs) (are_numbers_apart cs) h in
    (not_equal c cs parts.0, numbers_apart cs parts.1)

-- what the test of a permutation tests
pub IsOrder-tested : (n : ℕ) (order : List ℕ) → All (λ c. c < n) order → is_permutation n order ≡ true → IsOrder n order
IsOrder-tested n order within h =
    let parts = both (length order == n) (are_numbers_apart order) h in
    record {
      each = let e = parts.0 in grind (arith, nat_tests);
      within = within;
      once = numbers_apart order parts.1;
    }
