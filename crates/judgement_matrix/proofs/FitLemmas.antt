-- That a scale meets a matrix is that all rows hold, and what is to be answered is one thing.
use Rattle.std.proofs.Common.{◌≡◌, ℕ, zero, suc, ◌+◌, ◌-◌, ◌<◌, ◌≤◌, ℤ, pos, ◌≤ℤ◌, ◌*ℤ◌, ◌-ℤ◌, Bool, true, false, List, ◌++◌, Option, Some, None, filter, find, ◌↔◌, add-zero, refl, sym, ap, ◌∙◌, subst, arith}
use Rattle.std.specs.Prelude.{int_lt, nat_le, nat_lt, ◌==◌}
use Rattle.std.specs.List.{AllByRecursion, range_with_len}
use Rattle.std.proofs.lemmas.Int.{ints}
use Rattle.std.proofs.lemmas.Bool.Decides.{nat_tests}
use Rattle.integers.proofs.Order.{le_of_lt}
use Rattle.judgement_matrix.specs.Matrix.{Judgements, IsPair, pairs, range_at}
use Rattle.judgement_matrix.specs.Scale.{difference, IsScale, IsMetInUnit, IsMetBy}
use Rattle.judgement_matrix.specs.Rows.{lower_rows, zero_rows, cross_rows_under, cross_rows, order_rows, rows, RowHolds, IsFit}
use Rattle.judgement_matrix.specs.declared.tag.Tag.{Tag}
use Rattle.judgement_matrix.specs.declared.tag.Tag.TheVariants.{Lower, Zero, Cross, Order}
use Rattle.judgement_matrix.specs.declared.tag.Fit.{Fit}
use Rattle.judgement_matrix.specs.declared.tag.Fit.TheVariants.{Meets, Fails}
use Rattle.judgement_matrix.proofs.EveryLemmas.{every-append, every-append_left, every-append_right, every-map, every_from_map, every-filter, every_from_filter, every-flat_map, every_from_flat_map, every-range, every_in_range, every-pairs, every_at_pair, every_weaker}
use Rattle.judgement_matrix.proofs.FindLemmas.{find_none, find_from_none, find_first, find_from_first}

-- a bound of at least 0, times a category
pub at_least_zero : (n : ℤ) (lo : ℕ) → pos 0 ≤ℤ n → pos 0 ≤ℤ (n *ℤ pos lo)
at_least_zero n lo h = grind (arith, ints)

-- a test of order and the order
fails_order : (a b : ℤ) → int_lt a b ≡ true → ¬ (b ≤ℤ a)
fails_order a b h = λ k. grind (arith, ints)

-- a test that fails
holds_order : (a b : ℤ) → int_lt a b ≡ false → b ≤ℤ a
holds_order a b h = grind (arith, ints)

-- and the other way round
test_order : (a b : ℤ) → b ≤ℤ a → int_lt a b ≡ false
test_order a b h = grind (arith, ints)

-- the scale w over n fails the constraint of a row
abbrev row_misses : Judgements → List ℤ → ℤ → Tag → Bool
row_misses m w n (Lower p q) = int_lt (difference w p q) (n *ℤ pos (range_at m p q).lo)
row_misses m w n (Zero p q) = int_lt (pos 0) (difference w p q)
row_misses m w n (Cross p q x y) = int_lt (difference w p q -ℤ difference w x y) (n *ℤ (pos (range_at m p q).lo -ℤ pos (range_at m x y).hi))
row_misses m w n (Order p) = int_lt (difference w p (p + 1)) (pos 0)

-- the test of a row says whether the row holds
row_misses-true : (m : Judgements) (w : List ℤ) (n : ℤ) (tag : Tag) → row_misses m w n tag ≡ true → ¬ RowHolds m w n tag
row_misses-true m w n (Lower p q) h = fails_order _ _ h
row_misses-true m w n (Zero p q) h = fails_order _ _ h
row_misses-true m w n (Cross p q x y) h = fails_order _ _ h
row_misses-true m w n (Order p) h = fails_order _ _ h

-- a row that passes holds
row_misses-false : (m : Judgements) (w : List ℤ) (n : ℤ) (tag : Tag) → row_misses m w n tag ≡ false → RowHolds m w n tag
row_misses-false m w n (Lower p q) h = holds_order _ _ h
row_misses-false m w n (Zero p q) h = holds_order _ _ h
row_misses-false m w n (Cross p q x y) h = holds_order _ _ h
row_misses-false m w n (Order p) h = holds_order _ _ h

-- a row that holds passes
row_misses_not : (m : Judgements) (w : List ℤ) (n : ℤ) (tag : Tag) → RowHolds m w n tag → row_misses m w n tag ≡ false
row_misses_not m w n (Lower p q) h = test_order _ _ h
row_misses_not m w n (Zero p q) h = test_order _ _ h
row_misses_not m w n (Cross p q x y) h = test_order _ _ h
row_misses_not m w n (Order p) h = test_order _ _ h

-- a row that doesn't hold fails
row_misses_is : (m : Judgements) (w : List ℤ) (n : ℤ) (tag : Tag) → ¬ RowHolds m w n tag → row_misses m w n tag ≡ true
row_misses_is m w n tag h =
    let G : Bool → Type 0 = λ b. row_misses m w n tag ≡ b → row_misses m w n tag ≡ true in
    let by_test : G (row_misses m w n tag) = elim (row_misses m w n tag) as G [ true ↦ λ e. e | false ↦ λ e. absurd (h (row_misses-false m w n tag e)) ] in
    by_test refl

-- no category at all
least_none : (n : ℕ) → nat_le 1 n ≡ false → n ≡ 0
least_none n h = grind (arith, nat_tests)

-- the test of 0
is_zero : (n : ℕ) → n ≡ 0 → (n == 0) ≡ true
is_zero n h = grind (arith, nat_tests)

-- and what it says
zero_is : (n : ℕ) → (n == 0) ≡ true → n ≡ 0
zero_is n h = grind (arith, nat_tests)

-- the test of below
is_less : (m n : ℕ) → m < n → nat_lt m n ≡ true
is_less m n h = grind (arith, nat_tests)

-- and what it says
less_is : (m n : ℕ) → nat_lt m n ≡ true → m < n
less_is m n h = grind (arith, nat_tests)

-- where no element stands below the next one, none stands below a later one
falls_along : (w : List ℤ) (n : ℕ) → ((p : ℕ) → 1 ≤ p → p < n → pos 0 ≤ℤ difference w p (p + 1)) → (p j : ℕ) → 1 ≤ p → p + 1 + j ≤ n
    → pos 0 ≤ℤ difference w p (p + 1 + j)
falls_along w n h p zero low within = rw add-zero (h p low (omega arith))
falls_along w n h p (suc j) low within =
    let so_far : pos 0 ≤ℤ difference w p (p + 1 + j) = falls_along w n h p j low (omega arith) in
    let next : pos 0 ≤ℤ difference w (p + 1 + j) (p + 1 + j + 1) = h (p + 1 + j) (omega arith) (omega arith) in
    let e : p + 1 + suc j ≡ p + 1 + j + 1 = omega arith in
    rw e (omega (arith, ints, so_far, next))

-- no element stands below a later one
falls : (w : List ℤ) (n : ℕ) → ((p : ℕ) → 1 ≤ p → p < n → pos 0 ≤ℤ difference w p (p + 1)) → (p q : ℕ) → IsPair n p q → pos 0 ≤ℤ difference w p q
falls w n h p q in_n =
    let e : p + 1 + (q - (p + 1)) ≡ q = omega arith in
    rw e at (falls_along w n h p (q - (p + 1)) (omega arith) (omega arith))

-- each kind of row, and what it says of the pairs
module _ (m : Judgements) (w : List ℤ) (n : ℤ) where
  -- the row holds
  abbrev Holds : Tag → Type 0
  Holds = RowHolds m w n

  -- what the lower rows say
  lower_from : AllByRecursion Holds (lower_rows m) → (p q : ℕ) → IsPair m.size p q → nat_le 1 (range_at m p q).lo ≡ true → Holds (Lower p q)
  lower_from h =
      every_at_pair m.size (λ p q. nat_le 1 (range_at m p q).lo ≡ true → Holds (Lower p q))
      (every_from_filter (λ pair. Holds (Lower pair.0 pair.1)) (λ pair. nat_le 1 (range_at m pair.0 pair.1).lo) (pairs m.size)
      (every_from_map Holds (λ pair. Lower pair.0 pair.1) (filter (λ pair. nat_le 1 (range_at m pair.0 pair.1).lo) (pairs m.size)) h))

  -- what makes the lower rows hold
  lower_every : ((p q : ℕ) → IsPair m.size p q → Holds (Lower p q)) → AllByRecursion Holds (lower_rows m)
  lower_every h =
      every-map Holds (λ pair. Lower pair.0 pair.1) (filter (λ pair. nat_le 1 (range_at m pair.0 pair.1).lo) (pairs m.size))
      (every-filter (λ pair. Holds (Lower pair.0 pair.1)) (λ pair. nat_le 1 (range_at m pair.0 pair.1).lo) (pairs m.size)
      (every-pairs m.size (λ p q. nat_le 1 (range_at m p q).lo ≡ true → Holds (Lower p q)) (λ p q in_n _. h p q in_n)))

  -- what the zero rows say
  zero_from : AllByRecursion Holds (zero_rows m) → (p q : ℕ) → IsPair m.size p q → ((range_at m p q).hi == 0) ≡ true → Holds (Zero p q)
  zero_from h =
      every_at_pair m.size (λ p q. ((range_at m p q).hi == 0) ≡ true → Holds (Zero p q))
      (every_from_filter (λ pair. Holds (Zero pair.0 pair.1)) (λ pair. (range_at m pair.0 pair.1).hi == 0) (pairs m.size)
      (every_from_map Holds (λ pair. Zero pair.0 pair.1) (filter (λ pair. (range_at m pair.0 pair.1).hi == 0) (pairs m.size)) h))

  -- what makes the zero rows hold
  zero_every : ((p q : ℕ) → IsPair m.size p q → ((range_at m p q).hi == 0) ≡ true → Holds (Zero p q)) → AllByRecursion Holds (zero_rows m)
  zero_every h =
      every-map Holds (λ pair. Zero pair.0 pair.1) (filter (λ pair. (range_at m pair.0 pair.1).hi == 0) (pairs m.size))
      (every-filter (λ pair. Holds (Zero pair.0 pair.1)) (λ pair. (range_at m pair.0 pair.1).hi == 0) (pairs m.size)
      (every-pairs m.size (λ p q. ((range_at m p q).hi == 0) ≡ true → Holds (Zero p q)) h))

  -- the rows of one pair
  under_from : (p q : ℕ) → AllByRecursion Holds (cross_rows_under m (p, q) (pairs m.size)) → (x y : ℕ) → IsPair m.size x y
      → nat_lt (range_at m x y).hi (range_at m p q).lo ≡ true → Holds (Cross p q x y)
  under_from p q h =
      every_at_pair m.size (λ x y. nat_lt (range_at m x y).hi (range_at m p q).lo ≡ true → Holds (Cross p q x y))
      (every_from_filter (λ right. Holds (Cross p q right.0 right.1)) (λ right. nat_lt (range_at m right.0 right.1).hi (range_at m p q).lo) (pairs m.size)
      (every_from_map Holds (λ right. Cross p q right.0 right.1) (filter (λ right. nat_lt (range_at m right.0 right.1).hi (range_at m p q).lo) (pairs m.size)) h))

  -- what makes the rows of one pair hold
  under_every : (p q : ℕ) → ((x y : ℕ) → IsPair m.size x y → nat_lt (range_at m x y).hi (range_at m p q).lo ≡ true → Holds (Cross p q x y))
      → AllByRecursion Holds (cross_rows_under m (p, q) (pairs m.size))
  under_every p q h =
      every-map Holds (λ right. Cross p q right.0 right.1) (filter (λ right. nat_lt (range_at m right.0 right.1).hi (range_at m p q).lo) (pairs m.size))
      (every-filter (λ right. Holds (Cross p q right.0 right.1)) (λ right. nat_lt (range_at m right.0 right.1).hi (range_at m p q).lo) (pairs m.size)
      (every-pairs m.size (λ x y. nat_lt (range_at m x y).hi (range_at m p q).lo ≡ true → Holds (Cross p q x y)) h))

  -- what the cross rows say
  cross_from : AllByRecursion Holds (cross_rows m) → (p q : ℕ) → IsPair m.size p q → AllByRecursion Holds (cross_rows_under m (p, q) (pairs m.size))
  cross_from h =
      every_at_pair m.size (λ p q. AllByRecursion Holds (cross_rows_under m (p, q) (pairs m.size)))
      (every_from_flat_map Holds (λ left. cross_rows_under m left (pairs m.size)) (pairs m.size) h)

  -- what makes the cross rows hold
  cross_every : ((p q : ℕ) → IsPair m.size p q → AllByRecursion Holds (cross_rows_under m (p, q) (pairs m.size))) → AllByRecursion Holds (cross_rows m)
  cross_every h =
      every-flat_map Holds (λ left. cross_rows_under m left (pairs m.size)) (pairs m.size)
      (every-pairs m.size (λ p q. AllByRecursion Holds (cross_rows_under m (p, q) (pairs m.size))) h)

  -- what the order rows say
  order_from : AllByRecursion Holds (order_rows m) → (p : ℕ) → 1 ≤ p → p < m.size → Holds (Order p)
  order_from h p low high =
      every_in_range (λ k. Holds (Order k)) 1 (m.size - 1) p (every_from_map Holds (λ k. Order k) (range_with_len 1 (m.size - 1)) h) low (omega arith)

  -- what makes the order rows hold
  order_every : ((p : ℕ) → 1 ≤ p → p < m.size → Holds (Order p)) → AllByRecursion Holds (order_rows m)
  order_every h =
      every-map Holds (λ k. Order k) (range_with_len 1 (m.size - 1))
      (every-range (λ k. Holds (Order k)) 1 (m.size - 1) (λ k low high. h k low (omega arith)))

  -- a least category of 0 asks that the pair doesn't stand the other way round
  lower_any : (p q : ℕ) → (nat_le 1 (range_at m p q).lo ≡ true → Holds (Lower p q)) → pos 0 ≤ℤ difference w p q → Holds (Lower p q)
  lower_any p q h falls =
      let G : Bool → Type 0 = λ b. nat_le 1 (range_at m p q).lo ≡ b → Holds (Lower p q) in
      let by_test : G (nat_le 1 (range_at m p q).lo) = elim (nat_le 1 (range_at m p q).lo) as G [
        | true ↦ λ e. h e
        | false ↦ λ e. let none : (range_at m p q).lo ≡ 0 = least_none (range_at m p q).lo e in rw none (omega (arith, ints))
      ] in
      by_test refl

  -- where all rows hold the judgements are met
  pub met_from_rows : AllByRecursion Holds (rows m) → IsMetInUnit m n w
  met_from_rows h =
      let front = every-append_left Holds (lower_rows m ++ zero_rows m ++ cross_rows m) (order_rows m) h in
      let order = order_from (every-append_right Holds (lower_rows m ++ zero_rows m ++ cross_rows m) (order_rows m) h) in
      let pairwise = every-append_left Holds (lower_rows m ++ zero_rows m) (cross_rows m) front in
      let cross = cross_from (every-append_right Holds (lower_rows m ++ zero_rows m) (cross_rows m) front) in
      let lower = lower_from (every-append_left Holds (lower_rows m) (zero_rows m) pairwise) in
      let zeros = zero_from (every-append_right Holds (lower_rows m) (zero_rows m) pairwise) in
      record {
        lower = λ p q in_n. lower_any p q (lower p q in_n) (falls w m.size order p q in_n);
        zero = λ p q in_n e. zeros p q in_n (is_zero (range_at m p q).hi e);
        cross = λ p q x y left right l. under_from p q (cross p q left) x y right (is_less (range_at m x y).hi (range_at m p q).lo l);
      }

  -- where the judgements are met all rows hold
  pub rows_from_met : pos 0 ≤ℤ n → IsMetInUnit m n w → AllByRecursion Holds (rows m)
  rows_from_met nonneg h =
      let lower = lower_every h.lower in
      let zeros = zero_every (λ p q in_n e. h.zero p q in_n (zero_is (range_at m p q).hi e)) in
      let cross = cross_every (λ p q left. under_every p q (λ x y right e. h.cross p q x y left right (less_is (range_at m x y).hi (range_at m p q).lo e))) in
      let order = order_every (λ p low high.
      let bound = h.lower p (p + 1) (low, omega arith, omega arith) in
      let above : pos 0 ≤ℤ (n *ℤ pos (range_at m p (p + 1)).lo) = at_least_zero n (range_at m p (p + 1)).lo nonneg in
      omega (arith, ints, bound, above)) in
      every-append Holds (lower_rows m ++ zero_rows m ++ cross_rows m) (order_rows m)
      (every-append Holds (lower_rows m ++ zero_rows m) (cross_rows m) (every-append Holds (lower_rows m) (zero_rows m) lower zeros) cross) order

  -- the judgements are met exactly where all rows hold
  pub met_iff_rows : pos 0 ≤ℤ n → IsMetInUnit m n w ↔ AllByRecursion Holds (rows m)
  met_iff_rows nonneg = (rows_from_met nonneg, met_from_rows)

  -- the answer by the first row that fails
  abbrev pub fit_of : Option Tag → Fit
  fit_of None = Meets
  fit_of (Some tag) = Fails tag

  -- what the first row that fails, if any, answers
  pub IsFit-find : IsScale m w n → (r : Option Tag) → r ≡ find (row_misses m w n) (rows m) → IsFit m w n (fit_of r)
  IsFit-find scale None e =
      let hold = every_weaker (λ tag. row_misses m w n tag ≡ false) Holds (λ tag k. row_misses-false m w n tag k) (rows m) (find_none (row_misses m w n) (rows m) (sym e)) in
      record { scale = scale; meets = met_from_rows hold }
  IsFit-find scale (Some tag) e =
      let f = find_first (row_misses m w n) (rows m) tag (sym e) in
      record {
        before = f.before;
        after = f.after;
        stands = f.stands;
        hold = every_weaker (λ other. row_misses m w n other ≡ false) Holds (λ other k. row_misses-false m w n other k) f.before f.fail;
        fails = row_misses-true m w n tag f.passes;
      }

  -- an answer is that of the first row that fails
  pub fit_is : (fit : Fit) → IsFit m w n fit → fit ≡ fit_of (find (row_misses m w n) (rows m))
  fit_is Meets h =
      let none = find_from_none (row_misses m w n) (rows m) (every_weaker Holds (λ tag. row_misses m w n tag ≡ false) (λ tag k. row_misses_not m w n tag k) (rows m) (rows_from_met (le_of_lt (pos 0) n h.scale.den_pos) h.meets)) in
      ap fit_of (sym none)
  fit_is (Fails tag) h =
      let fail = every_weaker Holds (λ other. row_misses m w n other ≡ false) (λ other k. row_misses_not m w n other k) h.before h.hold in
      let found = find_from_first (row_misses m w n) h.before tag h.after fail (row_misses_is m w n tag h.fails) in
      ap fit_of (sym (ap (find (row_misses m w n)) h.stands ∙ found))

  -- there is at most one answer
  pub IsFit-unique : (a b : Fit) → IsFit m w n a → IsFit m w n b → a ≡ b
  IsFit-unique a b h k = fit_is a h ∙ sym (fit_is b k)

  -- the answer is that it meets exactly where it does
  pub IsFit-Meets : (fit : Fit) → IsFit m w n fit → (fit ≡ Meets) ↔ IsMetBy m w n
  IsFit-Meets fit h = (λ e. subst (IsFit m w n) e h, λ k. IsFit-unique fit Meets h k)

  -- there is an answer for every scale
  pub fit_exists : IsScale m w n → (fit : Fit) × IsFit m w n fit
  fit_exists scale = (fit_of (find (row_misses m w n) (rows m)), IsFit-find scale (find (row_misses m w n) (rows m)) refl)
