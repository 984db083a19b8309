-- Thresholds between the categories do the work of all Cross rows: where there are some the judgements are met, and where the judgements
-- are met there are some.
use lib.IntN.{*ℤ-zero}
use Rattle.std.specs.Prelude.{int_lt, ◌==◌}
use Rattle.std.specs.List.{AllByRecursion, filter}
use Rattle.std.proofs.Common.{◌≡◌, ◌⊎◌, inl, inr, ℕ, zero, suc, ◌+◌, ◌-◌, ◌<◌, ◌≤◌, Bool, true, cond, ℤ, pos, ◌+ℤ◌, ◌-ℤ◌, ◌*ℤ◌, ◌≤ℤ◌, List, [], ◌∷◌, length, map, refl, sym, ap, subst, ◌∙◌, arith, add-zero}
use Rattle.std.proofs.lemmas.Bool.{cases_lt}
use Rattle.std.proofs.lemmas.Int.{ints}
use Rattle.std.proofs.lemmas.Grind.{common_steps}
use Rattle.std.proofs.lemmas.List.{get_or_past}
use Rattle.integers.specs.Vector.{AreNonNegative}
use Rattle.integers.proofs.Laws.{lin}
use Rattle.integers.proofs.Order.{le_trans}
use Rattle.integers.proofs.VectorOrder.{get_or_nonneg}
use Rattle.std.specs.Int.Signed.{≤ℤ_refl}
use Rattle.integers.proofs.Ring.{◌⊖◌, ◌⊗◌, ◌≗◌, ring3}
use Rattle.judgement_matrix.specs.Range.{IsRange}
use Rattle.judgement_matrix.specs.Matrix.{Judgements, IsMatrix, IsPair, pairs, place, range_at}
use Rattle.judgement_matrix.specs.Scale.{difference, IsMetInUnit}
use Rattle.judgement_matrix.proofs.EveryLemmas.{every-map, every_from_map, every-filter, every_from_filter, every-pairs, every_at_pair, every_weaker}
use Rattle.lp_macbeth.proofs.PairLemmas.{All-from_every}
use Rattle.lp_macbeth.proofs.MeetLemmas.{threshold_at, Separates}

-- ---- from thresholds

-- each pair's range is one
pub IsRange-range_at : (m : Judgements) → IsMatrix m → (p q : ℕ) → IsRange (range_at m p q)
IsRange-range_at m h p q = elim (cases_lt (place m.size p q) (length m.cells)) [
  | inl l ↦ (h.cells_are (place m.size p q) _ l).0
  | inr g ↦ subst (λ cell. IsRange cell.0) (sym (get_or_past m.cells (place m.size p q) _ g)) (omega arith, omega arith)
]

-- thresholds rise
rising : (m : Judgements) (w t : List ℤ) (n : ℤ) → Separates m w t n → (i k : ℕ) → 1 ≤ i → i + k ≤ 5 → threshold_at t i ≤ℤ threshold_at t (i + k)
rising m w t n h i zero low high = subst (λ j. threshold_at t i ≤ℤ threshold_at t j) (sym (add-zero i)) (≤ℤ_refl (threshold_at t i))
rising m w t n h i (suc k) low high =
    let so_far = rising m w t n h i k low (omega arith) in
    let next = h.step (i + suc k) (omega arith) high in
    let e : i + suc k - 1 ≡ i + k = omega arith in
    let next' : threshold_at t (i + k) ≤ℤ threshold_at t (i + suc k) = subst (λ j. threshold_at t j ≤ℤ threshold_at t (i + suc k)) e next in
    le_trans (threshold_at t i) (threshold_at t (i + k)) (threshold_at t (i + suc k)) so_far next'

-- no threshold is below 0
threshold_nonneg : (t : List ℤ) → AreNonNegative t → (k : ℕ) → pos 0 ≤ℤ threshold_at t k
threshold_nonneg t h zero = ≤ℤ_refl (pos 0)
threshold_nonneg t h (suc k) = get_or_nonneg t h k

-- one pair above another, with a threshold between
cross_from : (n d e a b : ℤ) (i j : ℕ) → (n *ℤ pos i +ℤ a) ≤ℤ d → e ≤ℤ (n *ℤ pos j +ℤ b) → b ≤ℤ a → (n *ℤ (pos i -ℤ pos j)) ≤ℤ (d -ℤ e)
cross_from n d e a b i j high low between =
    let split : n *ℤ (pos i -ℤ pos j) ≡ n *ℤ pos i -ℤ n *ℤ pos j = ring3 (λ n i j. n ⊗ (i ⊖ j) ≗ n ⊗ i ⊖ n ⊗ j) refl n (pos i) (pos j) in
    omega (arith, lin, split, high, low, between)

pub met_from_separates : (m : Judgements) (w t : List ℤ) (n : ℤ) → IsMatrix m → AreNonNegative t → ((p q : ℕ) → IsPair m.size p q → pos 0 ≤ℤ difference w p q)
    → Separates m w t n → IsMetInUnit m n w
met_from_separates m w t n matrix nonneg falls h = record {
  lower = λ p q in_n. lower p q in_n (cases_lt 0 (range_at m p q).lo);
  zero = h.equal;
  cross = λ p q x y left right l. cross p q x y left right l (cases_lt 0 (range_at m x y).hi);
}
  where
    lower : (p q : ℕ) → IsPair m.size p q → (0 < (range_at m p q).lo) ⊎ ((range_at m p q).lo ≤ 0) → (n *ℤ pos (range_at m p q).lo) ≤ℤ difference w p q
    lower p q in_n (inl l) =
        let over = h.at p q in_n (omega arith) in
        let up = threshold_nonneg t nonneg ((range_at m p q).lo - 1) in
        omega (arith, lin, over, up)
    lower p q in_n (inr g) =
        let none : (range_at m p q).lo ≡ 0 = omega arith in
        let zero : n *ℤ pos (range_at m p q).lo ≡ pos 0 = ap (λ k. n *ℤ pos k) none ∙ *ℤ-zero n in
        let up = falls p q in_n in
        omega (arith, lin, zero, up)

    cross : (p q x y : ℕ) → IsPair m.size p q → IsPair m.size x y → (range_at m x y).hi < (range_at m p q).lo
        → (0 < (range_at m x y).hi) ⊎ ((range_at m x y).hi ≤ 0)
        → (n *ℤ (pos (range_at m p q).lo -ℤ pos (range_at m x y).hi)) ≤ℤ (difference w p q -ℤ difference w x y)
    cross p q x y left right l (inl low) =
        let i : ℕ = (range_at m p q).lo in
        let j : ℕ = (range_at m x y).hi in
        let most : i ≤ 6 = omega (arith, (IsRange-range_at m matrix p q).0, (IsRange-range_at m matrix p q).1) in
        let e : j + (i - 1 - j) ≡ i - 1 = omega arith in
        let between = subst (λ k. threshold_at t j ≤ℤ threshold_at t k) e (rising m w t n h j (i - 1 - j) (omega arith) (omega arith)) in
        cross_from n (difference w p q) (difference w x y) (threshold_at t (i - 1)) (threshold_at t j) i j (h.at p q left (omega arith))
        (h.below x y right (omega arith) (omega arith)) between
    cross p q x y left right l (inr none) =
        let i : ℕ = (range_at m p q).lo in
        let j : ℕ = (range_at m x y).hi in
        let e : j ≡ 0 = omega arith in
        let zero : n *ℤ pos j ≡ pos 0 = ap (λ k. n *ℤ pos k) e ∙ *ℤ-zero n in
        let low : difference w x y ≤ℤ (n *ℤ pos j +ℤ pos 0) = (let d = h.equal x y right e in omega (arith, lin, d, zero)) in
        cross_from n (difference w p q) (difference w x y) (threshold_at t (i - 1)) (pos 0) i j (h.at p q left (omega arith)) low
        (threshold_nonneg t nonneg (i - 1))

-- ---- to thresholds

-- the greatest of 0 and some numbers
abbrev pub top : List ℤ → ℤ
top [] = pos 0
top (z ∷ zs) = cond (int_lt (top zs) z) z (top zs)

greater_cases : (a b : ℤ) → (cond (int_lt a b) b a ≡ b) × (a ≤ℤ b) ⊎ (cond (int_lt a b) b a ≡ a) × (b ≤ℤ a)
greater_cases a b = grind (arith, ints)

-- it is at least 0
top_nonneg : (zs : List ℤ) → pos 0 ≤ℤ top zs
top_nonneg [] = ≤ℤ_refl (pos 0)
top_nonneg (z ∷ zs) =
    let rest = top_nonneg zs in
    elim (greater_cases (top zs) z) [
      | inl h ↦ subst (λ a. pos 0 ≤ℤ a) (sym h.0) (le_trans (pos 0) (top zs) z rest h.1)
      | inr h ↦ subst (λ a. pos 0 ≤ℤ a) (sym h.0) rest
    ]

-- it is at least each number
top_above : (zs : List ℤ) → AllByRecursion (λ z. z ≤ℤ top zs) zs
top_above [] = tt
top_above (z ∷ zs) =
    let rest = top_above zs in
    let G : ℤ → Type 0 = λ a. (z ≤ℤ a) × AllByRecursion (λ y. y ≤ℤ a) zs in
    elim (greater_cases (top zs) z) [
      | inl h ↦ subst G (sym h.0) (≤ℤ_refl z, every_weaker (λ y. y ≤ℤ top zs) (λ y. y ≤ℤ z) (λ y l. le_trans y (top zs) z l h.1) zs rest)
      | inr h ↦ subst G (sym h.0) (h.1, rest)
    ]

-- it is at most what 0 and each number are at most
top_least : (zs : List ℤ) (b : ℤ) → pos 0 ≤ℤ b → AllByRecursion (λ z. z ≤ℤ b) zs → top zs ≤ℤ b
top_least [] b h k = h
top_least (z ∷ zs) b h k = elim (greater_cases (top zs) z) [
  | inl g ↦ subst (λ a. a ≤ℤ b) (sym g.0) k.0
  | inr g ↦ subst (λ a. a ≤ℤ b) (sym g.0) (top_least zs b h k.1)
]

-- the pairs whose ranges end at a category
abbrev ends_at : Judgements → ℕ → ℕ × ℕ → Bool
ends_at m h pair = (range_at m pair.0 pair.1).hi == h

-- how far those stand over the category at most, but at least 0
abbrev level : Judgements → List ℤ → ℤ → ℕ → ℤ
level m w n h = top (map (λ (pair : ℕ × ℕ). difference w pair.0 pair.1 -ℤ n *ℤ pos h) (filter (ends_at m h) (pairs m.size)))

-- the threshold j: the greatest of 0 and d - h over the pairs whose ranges end at h, for h from 1 to j
abbrev cut : Judgements → List ℤ → ℤ → ℕ → ℤ
cut m w n zero = pos 0
cut m w n (suc j) = cond (int_lt (cut m w n j) (level m w n (suc j))) (level m w n (suc j)) (cut m w n j)

-- all five
abbrev pub cuts : Judgements → List ℤ → ℤ → List ℤ
cuts m w n = cut m w n 1 ∷ cut m w n 2 ∷ cut m w n 3 ∷ cut m w n 4 ∷ cut m w n 5 ∷ []

-- a threshold is at least the one before it, and at least its own level
cut_rises : (m : Judgements) (w : List ℤ) (n : ℤ) (j : ℕ) → (cut m w n j ≤ℤ cut m w n (suc j)) × (level m w n (suc j) ≤ℤ cut m w n (suc j))
cut_rises m w n j =
    let G : ℤ → Type 0 = λ a. (cut m w n j ≤ℤ a) × (level m w n (suc j) ≤ℤ a) in
    elim (greater_cases (cut m w n j) (level m w n (suc j))) [
      | inl h ↦ subst G (sym h.0) (h.1, ≤ℤ_refl (level m w n (suc j)))
      | inr h ↦ subst G (sym h.0) (≤ℤ_refl (cut m w n j), h.1)
    ]

cut_nonneg : (m : Judgements) (w : List ℤ) (n : ℤ) (j : ℕ) → pos 0 ≤ℤ cut m w n j
cut_nonneg m w n zero = ≤ℤ_refl (pos 0)
cut_nonneg m w n (suc j) = le_trans (pos 0) (cut m w n j) (cut m w n (suc j)) (cut_nonneg m w n j) (cut_rises m w n j).0

pub cuts_nonneg : (m : Judgements) (w : List ℤ) (n : ℤ) → AreNonNegative (cuts m w n)
cuts_nonneg m w n =
    All-from_every (λ c. pos 0 ≤ℤ c) (cuts m w n)
    (cut_nonneg m w n 1, (cut_nonneg m w n 2, (cut_nonneg m w n 3, (cut_nonneg m w n 4, (cut_nonneg m w n 5, tt)))))

-- the five by their numbers
threshold_at-cuts : (m : Judgements) (w : List ℤ) (n : ℤ) (k : ℕ) → k ≤ 5 → threshold_at (cuts m w n) k ≡ cut m w n k
threshold_at-cuts m w n zero h = refl
threshold_at-cuts m w n (suc zero) h = refl
threshold_at-cuts m w n (suc (suc zero)) h = refl
threshold_at-cuts m w n (suc (suc (suc zero))) h = refl
threshold_at-cuts m w n (suc (suc (suc (suc zero)))) h = refl
threshold_at-cuts m w n (suc (suc (suc (suc (suc zero))))) h = refl
threshold_at-cuts m w n (suc (suc (suc (suc (suc (suc k)))))) h = absurd (omega arith)

-- a number is the one that it is tested for
same_test : (a b : ℕ) → (a == b) ≡ true → a ≡ b
same_test a b h = grind (arith, common_steps)

test_same : (a b : ℕ) → a ≡ b → (a == b) ≡ true
test_same a b h = grind (arith, common_steps)

-- a pair is at most as far over its last category as the level of that category
level_above : (m : Judgements) (w : List ℤ) (n : ℤ) (h p q : ℕ) → IsPair m.size p q → (range_at m p q).hi ≡ h
    → (difference w p q -ℤ n *ℤ pos h) ≤ℤ level m w n h
level_above m w n h p q in_n e =
    let f : ℕ × ℕ → ℤ = λ (pair : ℕ × ℕ). difference w pair.0 pair.1 -ℤ n *ℤ pos h in
    let all = every_from_map (λ z. z ≤ℤ level m w n h) f (filter (ends_at m h) (pairs m.size)) (top_above (map f (filter (ends_at m h) (pairs m.size)))) in
    every_at_pair m.size (λ p q. ends_at m h (p, q) ≡ true → f (p, q) ≤ℤ level m w n h)
    (every_from_filter (λ pair. f pair ≤ℤ level m w n h) (ends_at m h) (pairs m.size) all) p q in_n (test_same (range_at m p q).hi h e)

-- a level is at most what 0 and those of its pairs are at most
level_least : (m : Judgements) (w : List ℤ) (n : ℤ) (h : ℕ) (b : ℤ) → pos 0 ≤ℤ b
    → ((x y : ℕ) → IsPair m.size x y → (range_at m x y).hi ≡ h → (difference w x y -ℤ n *ℤ pos h) ≤ℤ b) → level m w n h ≤ℤ b
level_least m w n h b nonneg each =
    let f : ℕ × ℕ → ℤ = λ (pair : ℕ × ℕ). difference w pair.0 pair.1 -ℤ n *ℤ pos h in
    top_least (map f (filter (ends_at m h) (pairs m.size))) b nonneg (every-map (λ z. z ≤ℤ b) f (filter (ends_at m h) (pairs m.size))
    (every-filter (λ pair. f pair ≤ℤ b) (ends_at m h) (pairs m.size)
    (every-pairs m.size (λ x y. ends_at m h (x, y) ≡ true → f (x, y) ≤ℤ b) (λ x y in_n e. each x y in_n (same_test (range_at m x y).hi h e)))))

-- a pair of least category lo is at least as far over it as the thresholds below
cut_below : (m : Judgements) (w : List ℤ) (n : ℤ) → IsMetInUnit m n w → (p q : ℕ) → IsPair m.size p q → (k : ℕ) → k < (range_at m p q).lo
    → cut m w n k ≤ℤ (difference w p q -ℤ n *ℤ pos (range_at m p q).lo)
cut_below m w n met p q in_n zero h = let bound = met.lower p q in_n in omega (arith, lin, bound)
cut_below m w n met p q in_n (suc k) h =
    let b : ℤ = difference w p q -ℤ n *ℤ pos (range_at m p q).lo in
    let bound = met.lower p q in_n in
    let so_far = cut_below m w n met p q in_n k (omega arith) in
    let over : level m w n (suc k) ≤ℤ b = level_least m w n (suc k) b (omega (arith, lin, bound)) (λ x y other e.
    let above = met.cross p q x y in_n other (subst (λ j. j < (range_at m p q).lo) (sym e) h) in
    let split : n *ℤ (pos (range_at m p q).lo -ℤ pos (range_at m x y).hi) ≡ n *ℤ pos (range_at m p q).lo -ℤ n *ℤ pos (range_at m x y).hi =
    ring3 (λ n i j. n ⊗ (i ⊖ j) ≗ n ⊗ i ⊖ n ⊗ j) refl n (pos (range_at m p q).lo) (pos (range_at m x y).hi) in
    let same : n *ℤ pos (range_at m x y).hi ≡ n *ℤ pos (suc k) = ap (λ j. n *ℤ pos j) e in
    omega (arith, lin, above, split, same)) in
    elim (greater_cases (cut m w n k) (level m w n (suc k))) [
      | inl g ↦ subst (λ a. a ≤ℤ b) (sym g.0) over
      | inr g ↦ subst (λ a. a ≤ℤ b) (sym g.0) so_far
    ]

-- a pair of greatest category hi is at most as far over it as its threshold
cut_above : (m : Judgements) (w : List ℤ) (n : ℤ) (p q j : ℕ) → IsPair m.size p q → (range_at m p q).hi ≡ j → 1 ≤ j
    → difference w p q ≤ℤ (n *ℤ pos j +ℤ cut m w n j)
cut_above m w n p q zero in_n e low = absurd (omega arith)
cut_above m w n p q (suc j) in_n e low =
    let over = level_above m w n (suc j) p q in_n e in
    let within = (cut_rises m w n j).1 in
    omega (arith, lin, over, within)

-- the thresholds of a scale separate its pairs
pub separates_from_met : (m : Judgements) (w : List ℤ) (n : ℤ) → IsMatrix m → IsMetInUnit m n w → Separates m w (cuts m w n) n
separates_from_met m w n matrix met = record {
  at = λ p q in_n low.
      let lo : ℕ = (range_at m p q).lo in
      let most : lo ≤ 6 = omega (arith, (IsRange-range_at m matrix p q).0, (IsRange-range_at m matrix p q).1) in
      let below = cut_below m w n met p q in_n (lo - 1) (omega arith) in
      let is = threshold_at-cuts m w n (lo - 1) (omega arith) in
      omega (arith, lin, below, is);
  equal = met.zero;
  below = λ p q in_n low high.
      let over = cut_above m w n p q (range_at m p q).hi in_n refl low in
      let is = threshold_at-cuts m w n (range_at m p q).hi high in
      omega (arith, lin, over, is);
  step = λ k low high. step k low high;
}
  where
    step : (k : ℕ) → 2 ≤ k → k ≤ 5 → threshold_at (cuts m w n) (k - 1) ≤ℤ threshold_at (cuts m w n) k
    step zero low high = absurd (omega arith)
    step (suc k) low high =
        let e : suc k - 1 ≡ k = omega arith in
        let before = threshold_at-cuts m w n k (omega arith) in
        let after = threshold_at-cuts m w n (suc k) high in
        let rises = (cut_rises m w n k).0 in
        subst (λ j. threshold_at (cuts m w n) j ≤ℤ threshold_at (cuts m w n) (suc k)) (sym e) (omega (arith, lin, before, after, rises))
