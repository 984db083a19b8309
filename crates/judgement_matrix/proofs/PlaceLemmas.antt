-- Where a pair stands in pair order, and how many pairs there are.
use Rattle.std.proofs.Common.{◌≡◌, ℕ, zero, suc, ◌+◌, ◌-◌, ◌*◌, ◌/◌, ◌<◌, ◌≤◌, List, [], ◌∷◌, ◌++◌, length, take, map, get_or, Some, refl, sym, ap, ap₂, ◌∙◌, arith, zero-add, suc-add}
use Rattle.std.specs.List.{flat_map, range_with_len, slice_get}
use Rattle.std.proofs.lemmas.List.{length-append, map-append, append-nil, get_or-map}
use Rattle.std.proofs.lemmas.List.Concat.{flat_map-append, get_or-flat_map}
use Rattle.std.proofs.lemmas.List.FromFn.{length-range_with_len, get_or-range_with_len, length-map-range_with_len, get_or-map-range_with_len}
use Rattle.judgement_matrix.specs.Matrix.{IsPair, pairs, pairs_before, place}

-- the pairs with p as their upper element
abbrev pub row : ℕ → ℕ → List (ℕ × ℕ)
row n p = map (λ q. (p, q)) (range_with_len (p + 1) (n - p))

-- the first k rows have n - 1, n - 2, up to n - k pairs
pub pairs_before_is : (n k : ℕ) → k ≤ n → 2 * pairs_before n k + k * (k + 1) ≡ 2 * (k * n)
pairs_before_is n zero h = omega arith
pairs_before_is n (suc k) h = omega (arith, pairs_before_is n k (omega arith))

-- a range of numbers begins with the shorter one
take-range : (a n k : ℕ) → k ≤ n → take k (range_with_len a n) ≡ range_with_len a k
take-range a n zero h = refl
take-range a zero (suc k) h = absurd (omega arith)
take-range a (suc n) (suc k) h = ap (λ xs. a ∷ xs) (take-range (a + 1) n k (omega arith))

-- a range of numbers ends with its last one
pub range-more : (a n : ℕ) → range_with_len a (suc n) ≡ range_with_len a n ++ (a + n) ∷ []
range-more a zero = ap (λ x. x ∷ []) (omega arith)
range-more a (suc n) =
    ap (λ xs. a ∷ xs) (range-more (a + 1) n ∙ ap (λ x. range_with_len (a + 1) n ++ x ∷ []) (omega arith))

-- the first k rows
pub length-rows : (n k : ℕ) → length (flat_map (row n) (range_with_len 1 k)) ≡ pairs_before n k
length-rows n zero = refl
length-rows n (suc k) =
    let ih = length-rows n k in
    let e = ap (λ xs. length (flat_map (row n) xs)) (range-more 1 k) in
    let f = ap length (flat_map-append (row n) (range_with_len 1 k) ((1 + k) ∷ [])) in
    let g = length-append (flat_map (row n) (range_with_len 1 k)) (row n (1 + k) ++ []) in
    let h = length-append (row n (1 + k)) [] in
    let r = length-map-range_with_len {X = ℕ × ℕ} (λ q. (1 + k, q)) (1 + k + 1) (n - (1 + k)) in
    omega (arith, e, f, g, h, r)

-- the number of pairs
pub length-pairs : (n : ℕ) → length (pairs n) ≡ pairs_before n (n - 1)
length-pairs n = length-rows n (n - 1)

-- an element that is there
slice_get-get_or : {X : Type 0} (xs : List X) (i : ℕ) (d : X) → i < length xs → slice_get xs i ≡ Some (get_or xs i d)
slice_get-get_or [] i d h = absurd (omega arith)
slice_get-get_or (x ∷ xs) zero d h = refl
slice_get-get_or (x ∷ xs) (suc i) d h = slice_get-get_or xs i d (omega arith)

-- the pair at its place
pub get_or-place : (n p q : ℕ) (d : ℕ × ℕ) → IsPair n p q → get_or (pairs n) (place n p q) d ≡ (p, q)
get_or-place n p q d h =
    let first : p - 1 < n - 1 = omega arith in
    let xs = range_with_len 1 (n - 1) in
    let upper : get_or xs (p - 1) 0 ≡ p = get_or-range_with_len 1 (n - 1) (p - 1) 0 first ∙ omega arith in
    let shorter : take (p - 1) xs ≡ range_with_len 1 (p - 1) = take-range 1 (n - 1) (p - 1) (omega arith) in
    let before : length (flat_map (row n) (take (p - 1) xs)) ≡ pairs_before n (p - 1) =
    ap (λ ys. length (flat_map (row n) ys)) shorter ∙ length-rows n (p - 1) in
    let in_xs : p - 1 < length xs = omega (arith, length-range_with_len 1 (n - 1)) in
    let in_row : q - p - 1 < length (row n (get_or xs (p - 1) 0)) =
    rw upper (omega (arith, length-map-range_with_len {X = ℕ × ℕ} (λ b. (p, b)) (p + 1) (n - p))) in
    let found = get_or-flat_map (row n) xs (p - 1) (q - p - 1) 0 d in_xs in_row in
    let at_row : get_or (row n p) (q - p - 1) d ≡ (p, q) =
    get_or-map-range_with_len {X = ℕ × ℕ} (λ b. (p, b)) (p + 1) (n - p) (q - p - 1) q d (omega arith) (omega arith) in
    ap (λ k. get_or (pairs n) (k + (q - p - 1)) d) (sym before) ∙ found ∙ ap (λ a. get_or (row n a) (q - p - 1) d) upper ∙ at_row

-- more rows have no fewer pairs
pairs_before_mono : (n k j : ℕ) → pairs_before n k ≤ pairs_before n (j + k)
pairs_before_mono n k zero = rw zero-add (omega arith)
pairs_before_mono n k (suc j) = rw suc-add (omega (arith, pairs_before_mono n k j))

-- no place is past the pairs
pub place-below : (n p q : ℕ) → IsPair n p q → place n p q < length (pairs n)
place-below n zero q h = absurd (omega arith)
place-below n (suc k) q h =
    let whole : n - 1 - suc k + suc k ≡ n - 1 = omega arith in
    let more : pairs_before n (suc k) ≤ pairs_before n (n - 1) = rw whole at (pairs_before_mono n (suc k) (n - 1 - suc k)) in
    let one_less : suc k - 1 ≡ k = omega arith in
    rw one_less (omega (arith, more, length-pairs n))

-- the pair at its place, as an `Option`
pub slice_get-place : (n p q : ℕ) → IsPair n p q → slice_get (pairs n) (place n p q) ≡ Some (p, q)
slice_get-place n p q h =
    slice_get-get_or (pairs n) (place n p q) (0, 0) (place-below n p q h) ∙ ap (λ pair. Some pair) (get_or-place n p q (0, 0) h)

-- the number of pairs in closed form
pub pairs_before-all : (n : ℕ) → 1 ≤ n → n * (n - 1) / 2 ≡ pairs_before n (n - 1)
pairs_before-all zero h = absurd (omega arith)
pairs_before-all (suc k) h =
    let one_less : suc k - 1 ≡ k = omega arith in
    rw one_less (omega (arith, pairs_before_is (suc k) k (omega arith)))

-- the pairs above a row in closed form
pub pairs_before-row : (n p : ℕ) → 1 ≤ p → p ≤ n → (p - 1) * n - (p - 1) * p / 2 ≡ pairs_before n (p - 1)
pairs_before-row n zero h k = absurd (omega arith)
pairs_before-row n (suc k) h l =
    let one_less : suc k - 1 ≡ k = omega arith in
    rw one_less (omega (arith, pairs_before_is n k (omega arith)))

-- ---- the pair at a place stands at it

-- the place of a pair
abbrev pub place_in : ℕ → ℕ × ℕ → ℕ
place_in n pair = place n pair.0 pair.1

-- numbers in a row, and those behind them
range-append : (a m k : ℕ) → range_with_len a m ++ range_with_len (a + m) k ≡ range_with_len a (m + k)
range-append a zero k = ap₂ (λ b c. range_with_len b c) (omega arith) (omega arith)
range-append a (suc m) k =
    let size : suc m + k ≡ suc (m + k) = omega arith in
    rw size (ap (λ xs. a ∷ xs) (ap (λ b. range_with_len (a + 1) m ++ range_with_len b k) (omega arith) ∙ range-append (a + 1) m k))

-- the places of the pairs of one upper element
row_places : (n p a m : ℕ) → p < a → map (place_in n) (map (λ q. (p, q)) (range_with_len a m)) ≡ range_with_len (pairs_before n (p - 1) + (a - p - 1)) m
row_places n p a zero h = refl
row_places n p a (suc m) h =
    ap (λ xs. place n p a ∷ xs) (row_places n p (a + 1) m (omega arith) ∙ ap (λ b. range_with_len b m) (omega arith))

-- the places of the first k rows are in order
rows_places : (n k : ℕ) → map (place_in n) (flat_map (row n) (range_with_len 1 k)) ≡ range_with_len 0 (pairs_before n k)
rows_places n zero = refl
rows_places n (suc k) =
    let cut = ap (λ xs. map (place_in n) (flat_map (row n) xs)) (range-more 1 k) in
    let join = ap (map (place_in n)) (flat_map-append (row n) (range_with_len 1 k) ((1 + k) ∷ [])) in
    let parts = map-append (place_in n) (flat_map (row n) (range_with_len 1 k)) (row n (1 + k) ++ []) in
    let last = ap (map (place_in n)) (append-nil (row n (1 + k))) ∙ row_places n (1 + k) (1 + k + 1) (n - (1 + k)) (omega arith) in
    let one_less : 1 + k - 1 ≡ k = omega arith in
    let start : pairs_before n (1 + k - 1) + (1 + k + 1 - (1 + k) - 1) ≡ pairs_before n k = rw one_less (omega arith) in
    let size : n - (1 + k) ≡ n - suc k = omega arith in
    let from_zero : pairs_before n (1 + k - 1) + (1 + k + 1 - (1 + k) - 1) ≡ 0 + pairs_before n k = omega (arith, start) in
    cut ∙ join ∙ parts ∙ ap₂ (λ xs ys. xs ++ ys) (rows_places n k) (last ∙ ap₂ (λ b c. range_with_len b c) from_zero size) ∙ range-append 0 (pairs_before n k) (n - suc k)

-- the pair that stands at a place has this place
pub place-at : (n i p q : ℕ) → i < length (pairs n) → get_or (pairs n) i (0, 0) ≡ (p, q) → place n p q ≡ i
place-at n i p q h e =
    let all : map (place_in n) (pairs n) ≡ range_with_len 0 (pairs_before n (n - 1)) = rows_places n (n - 1) in
    let within : i < pairs_before n (n - 1) = omega (arith, length-pairs n) in
    sym (ap (place_in n) e) ∙ sym (get_or-map (place_in n) (pairs n) i (0, 0) 0 h) ∙ ap (λ xs. get_or xs i 0) all ∙ get_or-range_with_len 0 (pairs_before n (n - 1)) i 0 within ∙ omega arith
