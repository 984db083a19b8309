-- The rows of a matrix stand in the order of their numbers, so that halving finds a tag.
use Rattle.std.specs.Prelude.{nat_lt, nat_le, ◌==◌, ◌*◌, Bool, true, false, filter, ◌⊎◌, if◌then◌else◌}
use Rattle.std.specs.List.{flat_map, range_with_len, position_or_len}
use Rattle.std.proofs.Common.{◌≡◌, ◌≢◌, inl, inr, ℕ, zero, suc, ◌+◌, ◌-◌, ◌<◌, ◌≤◌, List, [], ◌∷◌, ◌++◌, map, length, get_or, refl, sym, subst, arith}
use Rattle.std.proofs.lemmas.Bool.{cases_lt}
use Rattle.std.proofs.lemmas.Bool.Decides.{nat_tests}
use Rattle.std.proofs.lemmas.List.Sums.{position_or_len_is}
use Rattle.judgement_matrix.specs.Matrix.{Judgements, IsMatrix, pairs, range_at}
use Rattle.judgement_matrix.specs.Rows.{lower_rows, zero_rows, cross_rows, cross_rows_of, cross_rows_under}
use Rattle.judgement_matrix.specs.declared.tag.Tag.{Tag}
use Rattle.judgement_matrix.specs.declared.tag.Tag.TheVariants.{Lower, Zero, Cross, Order}
use Rattle.lp_macbeth.specs.Rows.{judged_rows}
use Rattle.cert_check.specs.Places.{is_same_tag, rank, pair_rank, Rise}

-- ---- lists that climb

-- each item has a higher number than the one before it, from lo on and below hi
abbrev pub Climb : {X : Type 0} → (X → ℕ) → ℕ → ℕ → List X → Type 0
Climb f lo hi [] = lo ≤ hi
Climb f lo hi (x ∷ xs) = (lo ≤ f x) × Climb f (suc (f x)) hi xs

climb-from : {X : Type 0} (f : X → ℕ) (low lo hi : ℕ) (xs : List X) → low ≤ lo → Climb f lo hi xs → Climb f low hi xs
climb-from f low lo hi [] l h = omega (arith, h)
climb-from f low lo hi (x ∷ xs) l h = (omega (arith, h.0), h.1)

climb-to : {X : Type 0} (f : X → ℕ) (lo hi high : ℕ) (xs : List X) → hi ≤ high → Climb f lo hi xs → Climb f lo high xs
climb-to f lo hi high [] l h = omega (arith, h)
climb-to f lo hi high (x ∷ xs) l h = (h.0, climb-to f (suc (f x)) hi high xs l h.1)

climb-append : {X : Type 0} (f : X → ℕ) (lo mid hi : ℕ) (xs ys : List X) → Climb f lo mid xs → Climb f mid hi ys → Climb f lo hi (xs ++ ys)
climb-append f lo mid hi [] ys h k = climb-from f lo mid hi ys h k
climb-append f lo mid hi (x ∷ xs) ys h k = (h.0, climb-append f (suc (f x)) mid hi xs ys h.1 k)

climb-filter : {X : Type 0} (f : X → ℕ) (p : X → Bool) (lo hi : ℕ) (xs : List X) → Climb f lo hi xs → Climb f lo hi (filter p xs)
climb-filter f p lo hi [] h = h
climb-filter {X} f p lo hi (x ∷ xs) h = step (p x) (climb-filter f p (suc (f x)) hi xs h.1)
  where
    step : (b : Bool) → Climb f (suc (f x)) hi (filter p xs) → Climb f lo hi (if b then x ∷ filter p xs else filter p xs)
    step true rest = (h.0, rest)
    step false rest = climb-from f lo (suc (f x)) hi (filter p xs) (omega (arith, h.0)) rest

climb-map : {X Y : Type 0} (g : X → Y) (f : Y → ℕ) (c : ℕ) (e : X → ℕ) → ((x : X) → f (g x) ≡ c + e x) → (lo hi : ℕ) (xs : List X) → Climb e lo hi xs
    → Climb f (c + lo) (c + hi) (map g xs)
climb-map g f c e is lo hi [] h = omega (arith, h)
climb-map g f c e is lo hi (x ∷ xs) h =
    let rest = climb-map g f c e is (suc (e x)) hi xs h.1 in
    let next : c + suc (e x) ≡ suc (f (g x)) = omega (arith, is x) in
    (omega (arith, is x, h.0), subst (λ n. Climb f n (c + hi) (map g xs)) next rest)

climb-numbers : (a n : ℕ) → Climb (λ (q : ℕ). q) a (a + n) (range_with_len a n)
climb-numbers a zero = omega arith
climb-numbers a (suc n) = (
  omega arith,
  climb-from (λ (q : ℕ). q) (suc a) (a + 1) (a + suc n) (range_with_len (a + 1) n) (omega arith)
      (climb-to (λ (q : ℕ). q) (a + 1) (a + 1 + n) (a + suc n) (range_with_len (a + 1) n) (omega arith) (climb-numbers (a + 1) n)),
)

above-at : {X : Type 0} (f : X → ℕ) (lo hi : ℕ) (xs : List X) (k : ℕ) (d : X) → k < length xs → Climb f lo hi xs → lo ≤ f (get_or xs k d)
above-at f lo hi [] k d l h = absurd (omega arith)
above-at f lo hi (x ∷ xs) zero d l h = h.0
above-at f lo hi (x ∷ xs) (suc k) d l h = omega (arith, h.0, above-at f (suc (f x)) hi xs k d (omega arith) h.1)

climb-rise : {X : Type 0} (f : X → ℕ) (lo hi : ℕ) (xs : List X) (i k : ℕ) (d : X) → i < k → k < length xs → Climb f lo hi xs
    → f (get_or xs i d) < f (get_or xs k d)
climb-rise f lo hi [] i k d l m h = absurd (omega arith)
climb-rise f lo hi (x ∷ xs) i zero d l m h = absurd (omega arith)
climb-rise f lo hi (x ∷ xs) zero (suc k) d l m h = omega (arith, above-at f (suc (f x)) hi xs k d (omega arith) h.1)
climb-rise f lo hi (x ∷ xs) (suc i) (suc k) d l m h = climb-rise f (suc (f x)) hi xs i k d (omega arith) (omega arith) h.1

-- ---- pairs and rows

abbrev rank_of : ℕ × ℕ → ℕ
rank_of pair = pair_rank pair.0 pair.1

climb-row : (n p : ℕ) → n ≤ 255 → p < n → Climb rank_of (p * 256) (suc p * 256) (map (λ q. (p, q)) (range_with_len (p + 1) (n - p)))
climb-row n p most l =
    let whole = climb-map (λ q. (p, q)) rank_of (p * 256) (λ (q : ℕ). q) (λ q. refl) (p + 1) (p + 1 + (n - p)) (range_with_len (p + 1) (n - p))
    (climb-numbers (p + 1) (n - p)) in
    climb-from rank_of (p * 256) (p * 256 + (p + 1)) (suc p * 256) _ (omega arith)
    (climb-to rank_of (p * 256 + (p + 1)) (p * 256 + (p + 1 + (n - p))) (suc p * 256) _ (omega arith) whole)

climb-rows : (n a k : ℕ) → n ≤ 255 → a + k ≤ n
    → Climb rank_of (a * 256) ((a + k) * 256) (flat_map (λ p. map (λ q. (p, q)) (range_with_len (p + 1) (n - p))) (range_with_len a k))
climb-rows n a zero most l = omega arith
climb-rows n a (suc k) most l =
    climb-append rank_of (a * 256) (suc a * 256) ((a + suc k) * 256) _ _ (climb-row n a most (omega arith))
    (climb-from rank_of (suc a * 256) ((a + 1) * 256) ((a + suc k) * 256) _ (omega arith)
    (climb-to rank_of ((a + 1) * 256) ((a + 1 + k) * 256) ((a + suc k) * 256) _ (omega arith) (climb-rows n (a + 1) k most (omega arith))))

climb-pairs : (n : ℕ) → 1 ≤ n → n ≤ 255 → Climb rank_of 0 65536 (pairs n)
climb-pairs n least most =
    climb-from rank_of 0 (1 * 256) 65536 (pairs n) (omega arith)
    (climb-to rank_of (1 * 256) ((1 + (n - 1)) * 256) 65536 (pairs n) (omega arith) (climb-rows n 1 (n - 1) most (omega arith)))

climb-under : (m : Judgements) (left : ℕ × ℕ) (rights : List (ℕ × ℕ)) → Climb rank_of 0 65536 rights
    → Climb rank ((2 + rank_of left) * 65536) ((2 + suc (rank_of left)) * 65536) (cross_rows_under m left rights)
climb-under m left rights h =
    let test = λ (right : ℕ × ℕ). nat_lt (range_at m right.0 right.1).hi (range_at m left.0 left.1).lo in
    let c : ℕ = (2 + rank_of left) * 65536 in
    let some = climb-filter rank_of test 0 65536 rights h in
    let whole = climb-map (λ (right : ℕ × ℕ). Cross left.0 left.1 right.0 right.1) rank c rank_of (λ right. refl) 0 65536 (filter test rights) some in
    climb-from rank c (c + 0) ((2 + suc (rank_of left)) * 65536) (cross_rows_under m left rights) (omega arith)
    (climb-to rank (c + 0) (c + 65536) ((2 + suc (rank_of left)) * 65536) (cross_rows_under m left rights) (omega arith) whole)

climb-cross : (m : Judgements) (lo hi : ℕ) (lefts rights : List (ℕ × ℕ)) → Climb rank_of lo hi lefts → Climb rank_of 0 65536 rights
    → Climb rank ((2 + lo) * 65536) ((2 + hi) * 65536) (cross_rows_of m lefts rights)
climb-cross m lo hi [] rights h k = omega (arith, h)
climb-cross m lo hi (left ∷ lefts) rights h k =
    climb-append rank ((2 + lo) * 65536) ((2 + suc (rank_of left)) * 65536) ((2 + hi) * 65536) (cross_rows_under m left rights)
    (cross_rows_of m lefts rights)
    (climb-from rank ((2 + lo) * 65536) ((2 + rank_of left) * 65536) ((2 + suc (rank_of left)) * 65536) (cross_rows_under m left rights)
    (omega (arith, h.0)) (climb-under m left rights k))
    (climb-cross m (suc (rank_of left)) hi lefts rights h.1 k)

pub Rise-judged_rows : (m : Judgements) → IsMatrix m → Rise (judged_rows m)
Rise-judged_rows m matrix i k l below =
    let n : ℕ = m.size in
    let all = climb-pairs n matrix.least (omega (arith, matrix.most)) in
    let at = λ (pair : ℕ × ℕ). nat_le 1 (range_at m pair.0 pair.1).lo in
    let none = λ (pair : ℕ × ℕ). (range_at m pair.0 pair.1).hi == 0 in
    let lower : Climb rank 0 65536 (lower_rows m) =
    climb-map (λ (pair : ℕ × ℕ). Lower pair.0 pair.1) rank 0 rank_of (λ pair. omega arith) 0 65536 (filter at (pairs n)) (climb-filter rank_of at 0 65536 (pairs n) all) in
    let zeros : Climb rank (65536 + 0) (65536 + 65536) (zero_rows m) =
    climb-map (λ (pair : ℕ × ℕ). Zero pair.0 pair.1) rank 65536 rank_of (λ pair. refl) 0 65536 (filter none (pairs n))
    (climb-filter rank_of none 0 65536 (pairs n) all) in
    let cross : Climb rank ((2 + 0) * 65536) ((2 + 65536) * 65536) (cross_rows m) = climb-cross m 0 65536 (pairs n) (pairs n) all all in
    let most : ℕ = (2 + 65536) * 65536 in
    climb-rise rank 0 most (judged_rows m) i k (Lower 0 0) l below
    (climb-append rank 0 (65536 + 65536) most (lower_rows m ++ zero_rows m) (cross_rows m)
    (climb-append rank 0 65536 (65536 + 65536) (lower_rows m) (zero_rows m) lower zeros) cross)

-- ---- a tag among them

same_rank : (a b : Tag) → is_same_tag a b ≡ true → rank a ≡ rank b
same_rank (Lower p q) (Lower x y) e = grind (arith, nat_tests)
same_rank (Lower p q) (Zero x y) e = absurd (cc)
same_rank (Lower p q) (Cross x y v w) e = absurd (cc)
same_rank (Lower p q) (Order x) e = absurd (cc)
same_rank (Zero p q) (Lower x y) e = absurd (cc)
same_rank (Zero p q) (Zero x y) e = grind (arith, nat_tests)
same_rank (Zero p q) (Cross x y v w) e = absurd (cc)
same_rank (Zero p q) (Order x) e = absurd (cc)
same_rank (Cross p q r s) (Lower x y) e = absurd (cc)
same_rank (Cross p q r s) (Zero x y) e = absurd (cc)
same_rank (Cross p q r s) (Cross x y v w) e = grind (arith, nat_tests)
same_rank (Cross p q r s) (Order x) e = absurd (cc)
same_rank (Order p) (Lower x y) e = absurd (cc)
same_rank (Order p) (Zero x y) e = absurd (cc)
same_rank (Order p) (Cross x y v w) e = absurd (cc)
same_rank (Order p) (Order x) e = grind (arith, nat_tests)

other_rank : (a b : Tag) → rank a ≢ rank b → is_same_tag a b ≡ false
other_rank a b differ = step (is_same_tag a b) (same_rank a b)
  where
    step : (t : Bool) → (t ≡ true → rank a ≡ rank b) → t ≡ false
    step true same = absurd (differ (same refl))
    step false same = refl

-- those before a place have lower numbers, and the tag stands there
pub place-found : (tags : List Tag) (tag : Tag) (i : ℕ) → i < length tags → ((k : ℕ) → k < i → rank (get_or tags k (Lower 0 0)) < rank tag)
    → is_same_tag tag (get_or tags i (Lower 0 0)) ≡ true → i ≡ position_or_len (is_same_tag tag) tags
place-found tags tag i inside lower here =
    sym (position_or_len_is (is_same_tag tag) tags i (Lower 0 0) (omega arith)
    (λ k l. other_rank tag (get_or tags k (Lower 0 0)) (λ e. omega (arith, e, lower k l))) (λ _. here))

-- it doesn't stand there, and those behind have higher numbers
pub place-missing : (tags : List Tag) (tag : Tag) (i : ℕ) → Rise tags → ((k : ℕ) → k < i → rank (get_or tags k (Lower 0 0)) < rank tag)
    → ((k : ℕ) → i ≤ k → k < length tags → rank tag ≤ rank (get_or tags k (Lower 0 0)))
    → (i < length tags → is_same_tag tag (get_or tags i (Lower 0 0)) ≡ false) → length tags ≡ position_or_len (is_same_tag tag) tags
place-missing tags tag i rise lower higher other =
    sym (position_or_len_is (is_same_tag tag) tags (length tags) (Lower 0 0) (omega arith) fails (λ l. absurd (omega (arith, l))))
  where
    behind : (k : ℕ) → (i < k) ⊎ (k ≤ i) → i ≤ k → k < length tags → is_same_tag tag (get_or tags k (Lower 0 0)) ≡ false
    behind k (inl after) from l =
        other_rank tag (get_or tags k (Lower 0 0)) (λ e. omega (arith, e, rise i k after l, higher i (omega arith) (omega arith)))
    behind k (inr before) from l =
        let here : i ≡ k = omega arith in
        subst (λ n. is_same_tag tag (get_or tags n (Lower 0 0)) ≡ false) here (other (omega arith))

    fails : (k : ℕ) → k < length tags → is_same_tag tag (get_or tags k (Lower 0 0)) ≡ false
    fails k l = elim (cases_lt k i) [
      | inl before ↦ other_rank tag (get_or tags k (Lower 0 0)) (λ e. omega (arith, e, lower k before))
      | inr from ↦ behind k (cases_lt i k) from l
    ]

-- one half of what is left
pub half-lower : (tags : List Tag) (number middle : ℕ) → Rise tags → middle < length tags → rank (get_or tags middle (Lower 0 0)) < number
    → (k : ℕ) → k < middle + 1 → rank (get_or tags k (Lower 0 0)) < number
half-lower tags number middle rise inside here k l = elim (cases_lt k middle) [
  | inl before ↦ omega (arith, rise k middle before inside)
  | inr from ↦ let same : middle ≡ k = omega arith in subst (λ n. rank (get_or tags n (Lower 0 0)) < number) same here
]

pub half-higher : (tags : List Tag) (number middle : ℕ) → Rise tags → number ≤ rank (get_or tags middle (Lower 0 0))
    → (k : ℕ) → middle ≤ k → k < length tags → number ≤ rank (get_or tags k (Lower 0 0))
half-higher tags number middle rise here k l inside = elim (cases_lt middle k) [
  | inl after ↦ omega (arith, rise middle k after inside)
  | inr from ↦ let same : middle ≡ k = omega arith in subst (λ n. number ≤ rank (get_or tags n (Lower 0 0))) same here
]
