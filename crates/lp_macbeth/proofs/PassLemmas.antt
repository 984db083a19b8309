-- Passing takes each weight off in the end, where those from each category on are no more than what begins above it.
use Rattle.std.specs.Prelude.{◌==◌, nat_le, nat_lt, cond, Bool, true, false, ⊤}
use Rattle.std.specs.List.{AllByRecursion}
use Rattle.std.proofs.Common.{◌≡◌, ◌≢◌, ◌⊎◌, inl, inr, ℕ, zero, suc, ◌+◌, ◌-◌, ◌<◌, ◌≤◌, List, [], ◌∷◌, length, ◌++◌, get_or, drop, refl, sym, ap, ap₂, subst, ◌∙◌, arith}
use Rattle.std.proofs.lemmas.Bool.{cases_eq, cases_lt, le-leb, lt-ltb, le-ltb}
use Rattle.std.proofs.lemmas.Grind.{common_steps}
use Rattle.std.proofs.Math.Seq.{drop-cons}
use Rattle.std.proofs.lemmas.List.{get_or_default}
use Rattle.integers.proofs.Loops.{push_next, join_next}
use Rattle.lp_macbeth.specs.Passing.{left_after, rests_after, passed, lost, lefts, takings}

-- the sum of the weights from a category on
abbrev pub from : ℕ → List (ℕ × ℕ) → ℕ
from j [] = 0
from j (x ∷ xs) = cond (nat_le j x.0) x.1 0 + from j xs

-- ---- one category

-- what is left is no more than the amount
left_most : (h a : ℕ) (xs : List (ℕ × ℕ)) → left_after h a xs ≤ a
left_most h a [] = omega arith
left_most h a (x ∷ xs) = step (x.0 == h) (left_most h (a - x.1) xs) (left_most h a xs)
  where
    step : (b : Bool) → left_after h (a - x.1) xs ≤ (a - x.1) → left_after h a xs ≤ a → left_after h (cond b (a - x.1) a) xs ≤ a
    step true p q = omega (arith, p)
    step false p q = q

-- categories up to it: weights lose what the amount loses
from-up_to : (h a j : ℕ) (xs : List (ℕ × ℕ)) → j ≤ h → from j (rests_after h a xs) + a ≡ from j xs + left_after h a xs
from-up_to h a j [] l = omega arith
from-up_to h a j (x ∷ xs) l = step (cases_eq x.0 h) (from-up_to h (a - x.1) j xs l) (from-up_to h a j xs l)
  where
    step : (x.0 ≡ h) ⊎ (x.0 ≢ h) → from j (rests_after h (a - x.1) xs) + (a - x.1) ≡ from j xs + left_after h (a - x.1) xs
        → from j (rests_after h a xs) + a ≡ from j xs + left_after h a xs
        → from j (rests_after h a (x ∷ xs)) + a ≡ from j (x ∷ xs) + left_after h a (x ∷ xs)
    step (inl e) p q =
        let here : (x.0 == h) ≡ true = grind (arith, common_steps) in
        let counts : nat_le j x.0 ≡ true = le-leb j x.0 (omega arith) in
        rw (here, counts) (omega (arith, p))
    step (inr ne) p q =
        let here : (x.0 == h) ≡ false = grind (arith, common_steps) in
        rw here (omega (arith, q))

-- categories above it: weights stay
from-above : (h a j : ℕ) (xs : List (ℕ × ℕ)) → h < j → from j (rests_after h a xs) ≡ from j xs
from-above h a j [] l = refl
from-above h a j (x ∷ xs) l = step (cases_eq x.0 h) (from-above h (a - x.1) j xs l) (from-above h a j xs l)
  where
    step : (x.0 ≡ h) ⊎ (x.0 ≢ h) → from j (rests_after h (a - x.1) xs) ≡ from j xs → from j (rests_after h a xs) ≡ from j xs
        → from j (rests_after h a (x ∷ xs)) ≡ from j (x ∷ xs)
    step (inl e) p q =
        let here : (x.0 == h) ≡ true = grind (arith, common_steps) in
        let none : nat_le j x.0 ≡ false = grind (arith, common_steps) in
        rw (here, none) (omega (arith, p))
    step (inr ne) p q =
        let here : (x.0 == h) ≡ false = grind (arith, common_steps) in
        rw here (omega (arith, q))

-- nothing is left of the amount, or nothing of the category's weights
all_or_all : (h a : ℕ) (xs : List (ℕ × ℕ)) → (left_after h a xs ≡ 0) ⊎ (from h (rests_after h a xs) ≡ from (suc h) (rests_after h a xs))
all_or_all h a [] = inr refl
all_or_all h a (x ∷ xs) = step (cases_eq x.0 h) (all_or_all h (a - x.1) xs) (all_or_all h a xs)
  where
    G : Type 0
    G = (left_after h a (x ∷ xs) ≡ 0) ⊎ (from h (rests_after h a (x ∷ xs)) ≡ from (suc h) (rests_after h a (x ∷ xs)))

    step : (x.0 ≡ h) ⊎ (x.0 ≢ h) → (left_after h (a - x.1) xs ≡ 0) ⊎ (from h (rests_after h (a - x.1) xs) ≡ from (suc h) (rests_after h (a - x.1) xs))
        → (left_after h a xs ≡ 0) ⊎ (from h (rests_after h a xs) ≡ from (suc h) (rests_after h a xs)) → G
    step (inl e) (inl p) q =
        let here : (x.0 == h) ≡ true = grind (arith, common_steps) in
        inl (rw here p)
    step (inl e) (inr p) q =
        let here : (x.0 == h) ≡ true = grind (arith, common_steps) in
        let counts : nat_le h x.0 ≡ true = le-leb h x.0 (omega arith) in
        let none : nat_le (suc h) x.0 ≡ false = grind (arith, common_steps) in
        elim (cases_lt x.1 a) [
          | inl l ↦ inr (rw (here, counts, none) (omega (arith, p)))
          | inr g ↦ inl (rw here (omega (arith, left_most h (a - x.1) xs)))
        ]
    step (inr ne) p (inl q) =
        let here : (x.0 == h) ≡ false = grind (arith, common_steps) in
        inl (rw here q)
    step (inr ne) p (inr q) =
        let here : (x.0 == h) ≡ false = grind (arith, common_steps) in
        let same : nat_le h x.0 ≡ nat_le (suc h) x.0 = grind (arith, common_steps) in
        inr (rw (here, same) (omega (arith, q)))

-- ---- all categories below one

-- fewer weights from a higher category on
pub from_falls : (j : ℕ) (xs : List (ℕ × ℕ)) → from (suc j) xs ≤ from j xs
from_falls j [] = omega arith
from_falls j (x ∷ xs) = step (cases_lt j x.0) (from_falls j xs)
  where
    step : (j < x.0) ⊎ (x.0 ≤ j) → from (suc j) xs ≤ from j xs → from (suc j) (x ∷ xs) ≤ from j (x ∷ xs)
    step (inl l) p =
        let low : nat_le j x.0 ≡ true = le-leb j x.0 (omega arith) in
        let high : nat_le (suc j) x.0 ≡ true = le-leb (suc j) x.0 (omega arith) in
        rw (low, high) (omega (arith, p))
    step (inr g) p =
        let high : nat_le (suc j) x.0 ≡ false = grind (arith, common_steps) in
        rw high (omega (arith, p))

-- from each category on the weights are no more than what the rest of the amounts has above it, and the amount below m
abbrev pub Covers : ℕ → ℕ → List (ℕ × ℕ) → List (ℕ × ℕ) → Type 0
Covers m a ats xs = (j : ℕ) → from j xs ≤ cond (nat_le (suc j) m) a 0 + from (suc j) ats

covers_step : (h a : ℕ) (ats xs : List (ℕ × ℕ)) → Covers (suc h) a ats xs → Covers h (left_after h a xs) ats (rests_after h a xs)
covers_step h a ats xs covers j = elim (cases_lt j h) [ inl l ↦ below l | inr g ↦ elim (cases_lt h j) [ inl l ↦ above l | inr k ↦ at (omega arith) ] ]
  where
    G : Type 0
    G = from j (rests_after h a xs) ≤ cond (nat_le (suc j) h) (left_after h a xs) 0 + from (suc j) ats

    below : j < h → G
    below l =
        let old : nat_le (suc j) (suc h) ≡ true = le-leb (suc j) (suc h) (omega arith) in
        let new : nat_le (suc j) h ≡ true = le-leb (suc j) h (omega arith) in
        let had = rw old at (covers j) in
        rw new (omega (arith, had, from-up_to h a j xs (omega arith)))

    above : h < j → G
    above l =
        let old : nat_le (suc j) (suc h) ≡ false = grind (arith, common_steps) in
        let new : nat_le (suc j) h ≡ false = grind (arith, common_steps) in
        let had = rw old at (covers j) in
        rw new (omega (arith, had, from-above h a j xs l))

    at : j ≡ h → G
    at e =
        let old : nat_le (suc h) (suc h) ≡ true = le-leb (suc h) (suc h) (omega arith) in
        let past : nat_le (suc (suc h)) (suc h) ≡ false = grind (arith, common_steps) in
        let new : nat_le (suc h) h ≡ false = grind (arith, common_steps) in
        let had : from h xs ≤ a + from (suc h) ats = subst (λ b. from h xs ≤ cond b a 0 + from (suc h) ats) old (covers h) in
        let next : from (suc h) xs ≤ 0 + from (suc (suc h)) ats =
        subst (λ b. from (suc h) xs ≤ cond b a 0 + from (suc (suc h)) ats) past (covers (suc h)) in
        let here : from h (rests_after h a xs) ≤ from (suc h) ats = elim (all_or_all h a xs) [
          | inl none ↦ omega (arith, had, none, from-up_to h a h xs (omega arith))
          | inr none ↦ omega (arith, next, none, from-above h a (suc h) xs (omega arith), from_falls (suc h) ats)
        ] in
        subst (λ i. from i (rests_after h a xs) ≤ cond (nat_le (suc i) h) (left_after h a xs) 0 + from (suc i) ats) (sym e)
        (subst (λ b. from h (rests_after h a xs) ≤ cond b (left_after h a xs) 0 + from (suc h) ats) (sym new) (omega (arith, here)))

covers_passed : (m a : ℕ) (ats xs : List (ℕ × ℕ)) → Covers m a ats xs → Covers 0 (passed m (a, xs)).0 ats (passed m (a, xs)).1
covers_passed zero a ats xs covers = covers
covers_passed (suc h) a ats xs covers = covers_passed h (left_after h a xs) ats (rests_after h a xs) (covers_step h a ats xs covers)

-- what all weights lose is what the amount loses
pub passed-total : (m a : ℕ) (xs : List (ℕ × ℕ)) → from 0 (passed m (a, xs)).1 + a ≡ from 0 xs + (passed m (a, xs)).0
passed-total zero a xs = refl
passed-total (suc h) a xs =
    let rest = passed-total h (left_after h a xs) (rests_after h a xs) in
    omega (arith, rest, from-up_to h a 0 xs (omega arith))

-- one category's turn in a loop
pub passed-next : (m k : ℕ) (s t done : ℕ × List (ℕ × ℕ)) → k < m → t ≡ (left_after (m - 1 - k) s.0 s.1, rests_after (m - 1 - k) s.0 s.1)
    → passed (m - k) s ≡ done → passed (m - (k + 1)) t ≡ done
passed-next m k s t done l is so_far =
    let whole : m - k ≡ suc (m - 1 - k) = omega arith in
    let rest : m - (k + 1) ≡ m - 1 - k = omega arith in
    ap₂ passed rest is ∙ ap (λ n. passed n s) (sym whole) ∙ so_far

-- nothing takes nothing off
left_after-none : (h : ℕ) (xs : List (ℕ × ℕ)) → left_after h 0 xs ≡ 0
left_after-none h [] = refl
left_after-none h (x ∷ xs) = ap (λ a. left_after h a xs) (none (x.0 == h)) ∙ left_after-none h xs
  where
    none : (b : Bool) → cond b (0 - x.1) 0 ≡ 0
    none true = omega arith
    none false = refl

rests_after-none : (h : ℕ) (xs : List (ℕ × ℕ)) → rests_after h 0 xs ≡ xs
rests_after-none h [] = refl
rests_after-none h (x ∷ xs) =
    ap₂ (λ w a. (x.0, w) ∷ rests_after h a xs) (same (x.0 == h)) (none (x.0 == h)) ∙ ap (λ l. x ∷ l) (rests_after-none h xs)
  where
    same : (b : Bool) → cond b (x.1 - 0) x.1 ≡ x.1
    same true = omega arith
    same false = refl

    none : (b : Bool) → cond b (0 - x.1) 0 ≡ 0
    none true = omega arith
    none false = refl

passed-zero : (m : ℕ) (xs : List (ℕ × ℕ)) → passed m (0, xs) ≡ (0, xs)
passed-zero zero xs = refl
passed-zero (suc h) xs = ap₂ (λ a l. passed h (a, l)) (left_after-none h xs) (rests_after-none h xs) ∙ passed-zero h xs

pub passed-none : (m a : ℕ) (xs : List (ℕ × ℕ)) → a ≡ 0 → passed m (a, xs) ≡ (a, xs)
passed-none m a xs none = subst (λ n. passed m (n, xs) ≡ (n, xs)) (sym none) (passed-zero m xs)

-- ---- all amounts

-- the weights in the end
abbrev pub rests : List (ℕ × ℕ) → List (ℕ × ℕ) → List (ℕ × ℕ)
rests [] xs = xs
rests (at ∷ ats) xs = rests ats (passed at.0 (at.1, xs)).1

-- from each category on the weights are no more than what begins above it
abbrev pub AreCovered : List (ℕ × ℕ) → List (ℕ × ℕ) → Type 0
AreCovered ats xs = (j : ℕ) → from j xs ≤ from (suc j) ats

covered_rests : (ats xs : List (ℕ × ℕ)) → AreCovered ats xs → from 0 (rests ats xs) ≤ 0
covered_rests [] xs covered = covered 0
covered_rests (at ∷ ats) xs covered =
    let more : (j : ℕ) → from j (passed at.0 (at.1, xs)).1 ≤ 0 + from (suc j) ats = λ j.
    let new : nat_le (suc j) 0 ≡ false = grind (arith, common_steps) in
    subst (λ b. from j (passed at.0 (at.1, xs)).1 ≤ cond b (passed at.0 (at.1, xs)).0 0 + from (suc j) ats) new (covers_passed at.0 at.1 ats xs covered j) in
    covered_rests ats (passed at.0 (at.1, xs)).1 (λ j. omega (arith, more j))

-- each of them is 0
none_from : (xs : List (ℕ × ℕ)) → from 0 xs ≤ 0 → AllByRecursion (λ x. x.1 ≡ 0) xs
none_from [] l = tt
none_from (x ∷ xs) l =
    let all : nat_le 0 x.0 ≡ true = le-leb 0 x.0 (omega arith) in
    let sum = rw all at l in
    (omega (arith, sum), none_from xs (omega (arith, sum)))

pub rests-none : (ats xs : List (ℕ × ℕ)) → AreCovered ats xs → AllByRecursion (λ x. x.1 ≡ 0) (rests ats xs)
rests-none ats xs covered = none_from (rests ats xs) (covered_rests ats xs covered)

-- ---- weight by weight

-- each weight is of the same category and no more, and is the same from a category on
abbrev pub AreLess : ℕ → List (ℕ × ℕ) → List (ℕ × ℕ) → Type 0
AreLess lo [] [] = ⊤
AreLess lo [] (y ∷ ys) = ⊥
AreLess lo (x ∷ xs) [] = ⊥
AreLess lo (x ∷ xs) (y ∷ ys) = ((y.0 ≡ x.0) × (y.1 ≤ x.1) × (lo ≤ x.0 → y.1 ≡ x.1)) × AreLess lo xs ys

less-refl : (lo : ℕ) (xs : List (ℕ × ℕ)) → AreLess lo xs xs
less-refl lo [] = tt
less-refl lo (x ∷ xs) = ((refl, omega arith, λ l. refl), less-refl lo xs)

less-trans : (lo k : ℕ) (xs ys zs : List (ℕ × ℕ)) → k ≤ lo → AreLess lo xs ys → AreLess k ys zs → AreLess lo xs zs
less-trans lo k [] [] [] l p q = tt
less-trans lo k [] [] (z ∷ zs) l p q = q
less-trans lo k [] (y ∷ ys) zs l p q = absurd p
less-trans lo k (x ∷ xs) [] zs l p q = absurd p
less-trans lo k (x ∷ xs) (y ∷ ys) [] l p q = q
less-trans lo k (x ∷ xs) (y ∷ ys) (z ∷ zs) l p q =
    ((q.0.0 ∙ p.0.0, omega (arith, p.0.1, q.0.1), λ h. q.0.2 (omega (arith, p.0.0)) ∙ p.0.2 h), less-trans lo k xs ys zs l p.1 q.1)

less-rests_after : (h a : ℕ) (xs : List (ℕ × ℕ)) → AreLess (suc h) xs (rests_after h a xs)
less-rests_after h a [] = tt
less-rests_after h a (x ∷ xs) = (first (cases_eq x.0 h), less-rests_after h (cond (x.0 == h) (a - x.1) a) xs)
  where
    first : (x.0 ≡ h) ⊎ (x.0 ≢ h) → (x.0 ≡ x.0) × (cond (x.0 == h) (x.1 - a) x.1 ≤ x.1) × (suc h ≤ x.0 → cond (x.0 == h) (x.1 - a) x.1 ≡ x.1)
    first (inl e) =
        let here : (x.0 == h) ≡ true = grind (arith, common_steps) in
        rw here (refl, omega arith, λ l. absurd (omega (arith, e)))
    first (inr ne) =
        let here : (x.0 == h) ≡ false = grind (arith, common_steps) in
        rw here (refl, omega arith, λ l. refl)

pub less-passed : (m a : ℕ) (xs : List (ℕ × ℕ)) → AreLess m xs (passed m (a, xs)).1
less-passed zero a xs = less-refl 0 xs
less-passed (suc h) a xs =
    less-trans (suc h) h xs (rests_after h a xs) (passed h (left_after h a xs, rests_after h a xs)).1 (omega arith) (less-rests_after h a xs)
    (less-passed h (left_after h a xs) (rests_after h a xs))

pub length-less : (lo : ℕ) (xs ys : List (ℕ × ℕ)) → AreLess lo xs ys → length ys ≡ length xs
length-less lo [] [] less = refl
length-less lo [] (y ∷ ys) less = absurd less
length-less lo (x ∷ xs) [] less = absurd less
length-less lo (x ∷ xs) (y ∷ ys) less = ap suc (length-less lo xs ys less.1)

pub length-passed : (m a : ℕ) (xs : List (ℕ × ℕ)) → length (passed m (a, xs)).1 ≡ length xs
length-passed m a xs = length-less m xs (passed m (a, xs)).1 (less-passed m a xs)

-- ---- a loop over what weights lose

-- the next pair of weights
lost-drop : (lo k : ℕ) (xs ys : List (ℕ × ℕ)) (x y : ℕ × ℕ) → k < length xs → length ys ≡ length xs → x ≡ get_or xs k x → y ≡ get_or ys k y
    → lost lo (drop k xs) (drop k ys)
    ≡ cond (nat_lt x.0 lo) ((x.1 - y.1) ∷ lost lo (drop (k + 1) xs) (drop (k + 1) ys)) (lost lo (drop (k + 1) xs) (drop (k + 1) ys))
lost-drop lo k xs ys x y below same first second =
    let more : suc k ≡ k + 1 = omega arith in
    let left : drop k xs ≡ x ∷ drop (k + 1) xs = drop-cons xs k x below ∙ ap₂ (λ z i. z ∷ drop i xs) (sym first) more in
    let right : drop k ys ≡ y ∷ drop (k + 1) ys = drop-cons ys k y (omega (arith, below, same)) ∙ ap₂ (λ z i. z ∷ drop i ys) (sym second) more in
    ap₂ (lost lo) left right

pub lost_take : (lo k : ℕ) (xs ys : List (ℕ × ℕ)) (x y : ℕ × ℕ) (done all now : List ℕ) → k < length xs → length ys ≡ length xs → x ≡ get_or xs k x → y
    ≡ get_or ys k y
    → x.0 < lo → done ++ lost lo (drop k xs) (drop k ys) ≡ all → now ≡ done ++ (x.1 - y.1) ∷ [] → now ++ lost lo (drop (k + 1) xs) (drop (k + 1) ys) ≡ all
lost_take lo k xs ys x y done all now below same first second low so_far made =
    let passes : nat_lt x.0 lo ≡ true = lt-ltb x.0 lo low in
    let next = rw passes at (lost-drop lo k xs ys x y below same first second) in
    push_next done all (lost lo (drop k xs) (drop k ys)) (lost lo (drop (k + 1) xs) (drop (k + 1) ys)) now (x.1 - y.1) so_far next made

pub lost_skip : (lo k : ℕ) (xs ys : List (ℕ × ℕ)) (x : ℕ × ℕ) (done all now : List ℕ) → k < length xs → length ys ≡ length xs → x ≡ get_or xs k x
    → lo ≤ x.0 → done ++ lost lo (drop k xs) (drop k ys) ≡ all → now ≡ done → now ++ lost lo (drop (k + 1) xs) (drop (k + 1) ys) ≡ all
lost_skip lo k xs ys x done all now below same first high so_far stays =
    let fails : nat_lt x.0 lo ≡ false = le-ltb x.0 lo high in
    let y : ℕ × ℕ = get_or ys k (0, 0) in
    let second : y ≡ get_or ys k y = sym (get_or_default ys k y (0, 0) (omega (arith, below, same))) in
    let next = rw fails at (lost-drop lo k xs ys x y below same first second) in
    ap₂ (λ a b. a ++ b) stays (sym next) ∙ so_far

-- ---- amounts in a loop: what is left of one is kept where its category is 1 or above

pub kept_take : (ats xs after : List (ℕ × ℕ)) (i : ℕ) (at : ℕ × ℕ) (left : ℕ) (done all now : List ℕ) → drop i ats ≡ at ∷ drop (i + 1) ats
    → (left, after) ≡ passed at.0 (at.1, xs) → 1 ≤ at.0 → done ++ lefts (drop i ats) xs ≡ all → now ≡ done ++ left ∷ []
    → now ++ lefts (drop (i + 1) ats) after ≡ all
kept_take ats xs after i at left done all now first turn low so_far made =
    let counts : nat_le 1 at.0 ≡ true = le-leb 1 at.0 low in
    let split : lefts (at ∷ drop (i + 1) ats) xs ≡ left ∷ lefts (drop (i + 1) ats) after =
    rw counts (ap (λ s. s.0 ∷ lefts (drop (i + 1) ats) s.1) (sym turn)) in
    push_next done all (lefts (drop i ats) xs) (lefts (drop (i + 1) ats) after) now left so_far (ap (λ l. lefts l xs) first ∙ split) made

pub kept_skip : (ats xs after : List (ℕ × ℕ)) (i : ℕ) (at : ℕ × ℕ) (left : ℕ) (done all now : List ℕ) → drop i ats ≡ at ∷ drop (i + 1) ats
    → (left, after) ≡ passed at.0 (at.1, xs) → at.0 < 1 → done ++ lefts (drop i ats) xs ≡ all → now ≡ done
    → now ++ lefts (drop (i + 1) ats) after ≡ all
kept_skip ats xs after i at left done all now first turn low so_far stays =
    let none : nat_le 1 at.0 ≡ false = grind (arith, common_steps) in
    let rest : lefts (at ∷ drop (i + 1) ats) xs ≡ lefts (drop (i + 1) ats) after =
    rw none (ap (λ s. lefts (drop (i + 1) ats) s.1) (sym turn)) in
    ap₂ (λ a b. a ++ b) stays (sym (ap (λ l. lefts l xs) first ∙ rest)) ∙ so_far

-- and what it took off is added
pub taken_next : (ats xs after : List (ℕ × ℕ)) (i : ℕ) (at : ℕ × ℕ) (left : ℕ) (done all now : List ℕ) → drop i ats ≡ at ∷ drop (i + 1) ats
    → (left, after) ≡ passed at.0 (at.1, xs) → done ++ takings (drop i ats) xs ≡ all → now ≡ done ++ lost at.0 xs after
    → now ++ takings (drop (i + 1) ats) after ≡ all
taken_next ats xs after i at left done all now first turn so_far made =
    join_next done all (takings (drop i ats) xs) (takings (drop (i + 1) ats) after) now (lost at.0 xs after) so_far
    (ap (λ l. takings l xs) first ∙ ap (λ s. lost at.0 xs s.1 ++ takings (drop (i + 1) ats) s.1) (sym turn)) made

-- ---- one category's weights in a loop

pub same_category : (i h : ℕ) → i ≡ h → (i == h) ≡ true
same_category i h e = grind (arith, common_steps)

pub other_category : (i h : ℕ) → i ≢ h → (i == h) ≡ false
other_category i h ne = grind (arith, common_steps)

-- what is left, and the weight: by whether it is of the category
pub left_next : (h i a b : ℕ) (x : ℕ × ℕ) (t : Bool) (xs : List (ℕ × ℕ)) (all : ℕ) → drop i xs ≡ x ∷ drop (i + 1) xs → (x.0 == h) ≡ t
    → b ≡ cond t (a - x.1) a → left_after h a (drop i xs) ≡ all → left_after h b (drop (i + 1) xs) ≡ all
left_next h i a b x t xs all first of left so_far =
    ap (λ z. left_after h z (drop (i + 1) xs)) (left ∙ ap (λ s. cond s (a - x.1) a) (sym of)) ∙ ap (left_after h a) (sym first) ∙ so_far

pub rests_next : (h i a b y : ℕ) (x : ℕ × ℕ) (t : Bool) (xs done all now : List (ℕ × ℕ)) → drop i xs ≡ x ∷ drop (i + 1) xs → (x.0 == h) ≡ t
    → b ≡ cond t (a - x.1) a → y ≡ cond t (x.1 - a) x.1 → done ++ rests_after h a (drop i xs) ≡ all → now ≡ done ++ (x.0, y) ∷ []
    → now ++ rests_after h b (drop (i + 1) xs) ≡ all
rests_next h i a b y x t xs done all now first of left rest so_far made =
    push_next done all (rests_after h a (drop i xs)) (rests_after h b (drop (i + 1) xs)) now (x.0, y) so_far
    (ap (rests_after h a) first
    ∙ ap₂ (λ u v. (x.0, u) ∷ rests_after h v (drop (i + 1) xs)) (ap (λ s. cond s (x.1 - a) x.1) of ∙ sym rest) (ap (λ s. cond s (a - x.1) a) of ∙ sym left))
    made
