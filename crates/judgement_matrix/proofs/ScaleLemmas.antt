-- Scales: two writings of one, which is smaller, the least of a matrix.
use Rattle.std.proofs.Common.{◌≡◌, ℕ, zero, suc, ◌-◌, ℤ, pos, ◌-ℤ◌, ◌*ℤ◌, ◌≤ℤ◌, ◌<ℤ◌, List, [], ◌∷◌, length, get_or, drop, replicate, ◌⊎◌, inl, inr, refl, sym, ap, ap₂, ◌∙◌, arith}
use mathlib.Core.List.{reverse, reverse_aux}
use Rattle.std.specs.Int.Signed.{lt_z_yes}
use Rattle.std.proofs.lemmas.Int.{ints}
use Rattle.std.proofs.lemmas.List.{length-replicate, length-reverse, get_or-reverse, reverse-reverse}
use Rattle.integers.specs.Fraction.{over, SameFractions}
use Rattle.integers.specs.Vector.{scale}
use Rattle.integers.proofs.Fractions.{SameFractions-length, SameFractions-over, AreFractions-over}
use Rattle.integers.proofs.LexOrder.{LexLess_irrefl, LexLess-trans, LexLess-cases, LexLess-same}
use Rattle.integers.proofs.Order.{cancel_le, le_of_lt, zero_of_mul}
use Rattle.integers.proofs.Ring.{con, neg, ◌⊖◌, ◌⊗◌, ◌≗◌, ◌≼◌, ◌✶◌, ◌⇐◌, combine4, combine5, combine6, ring1}
use Rattle.integers.proofs.VectorLaws.{length-scale}
use Rattle.integers.proofs.Fractions.{length-over}
use Rattle.integers.proofs.Zeros.{get_or-zeros}
use Rattle.judgement_matrix.specs.Matrix.{Judgements, IsPair, range_at, unjudged}
use Rattle.judgement_matrix.specs.Scale.{value_at, difference, IsScale, IsMetBy}
use Rattle.judgement_matrix.specs.Least.{order_key, IsSmaller, IsLeastScale}
use Rattle.judgement_matrix.proofs.FitLemmas.{at_least_zero}
use Rattle.judgement_matrix.proofs.JudgedLemmas.{cell_at-unjudged}

-- ---- two writings of one scale

-- the numbers at one place
values_same : (w v : List ℤ) (n k : ℤ) (i : ℕ) → SameFractions (over w n) (over v k) → get_or w i (pos 0) *ℤ k ≡ get_or v i (pos 0) *ℤ n
values_same [] [] n k i h = ring1 (λ k. con (pos 0) ⊗ k ≗ con (pos 0)) refl k ∙ sym (ring1 (λ n. con (pos 0) ⊗ n ≗ con (pos 0)) refl n)
values_same [] (y ∷ v) n k i h = absurd h
values_same (x ∷ w) [] n k i h = absurd h
values_same (x ∷ w) (y ∷ v) n k zero h = h.0
values_same (x ∷ w) (y ∷ v) n k (suc i) h = values_same w v n k i h.1

-- the differences
differences_same : (w v : List ℤ) (n k : ℤ) (p q : ℕ) → SameFractions (over w n) (over v k) → difference w p q *ℤ k ≡ difference v p q *ℤ n
differences_same w v n k p q h =
    combine6 (λ a b c d n k. (a ⊖ b) ⊗ k ≗ (c ⊖ d) ⊗ n ⇐ con (pos 1) ✶ (a ⊗ k ≗ c ⊗ n) ∷ neg (con (pos 1)) ✶ (b ⊗ k ≗ d ⊗ n) ∷ []) refl
    (value_at w p) (value_at w q) (value_at v p) (value_at v q) n k (values_same w v n k (p - 1) h) (values_same w v n k (q - 1) h)

-- a bound that one writing keeps
bound_same : (n k b dw dv : ℤ) → pos 0 <ℤ n → pos 0 <ℤ k → dw *ℤ k ≡ dv *ℤ n → (n *ℤ b) ≤ℤ dw → (k *ℤ b) ≤ℤ dv
bound_same n k b dw dv pn pk same h =
    cancel_le (k *ℤ b) dv n pn (combine5 (λ n k b dw dv. k ⊗ b ⊗ n ≼ dv ⊗ n ⇐ k ✶ (n ⊗ b ≼ dw) ∷ con (pos 1) ✶ (dw ⊗ k ≗ dv ⊗ n) ∷ []) refl n k b dw dv (le_of_lt (pos 0) k pk) h same)

-- a difference that isn't above 0
zero_same : (n k dw dv : ℤ) → pos 0 <ℤ n → pos 0 <ℤ k → dw *ℤ k ≡ dv *ℤ n → dw ≤ℤ pos 0 → dv ≤ℤ pos 0
zero_same n k dw dv pn pk same h =
    cancel_le dv (pos 0) n pn (combine4 (λ n k dw dv. dv ⊗ n ≼ con (pos 0) ⊗ n ⇐ k ✶ (dw ≼ con (pos 0)) ∷ neg (con (pos 1)) ✶ (dw ⊗ k ≗ dv ⊗ n) ∷ []) refl n k dw dv (le_of_lt (pos 0) k pk) h same)

-- the difference of two differences
cross_same : (a b c d n k : ℤ) → a *ℤ k ≡ c *ℤ n → b *ℤ k ≡ d *ℤ n → (a -ℤ b) *ℤ k ≡ (c -ℤ d) *ℤ n
cross_same = combine6 (λ a b c d n k. (a ⊖ b) ⊗ k ≗ (c ⊖ d) ⊗ n ⇐ con (pos 1) ✶ (a ⊗ k ≗ c ⊗ n) ∷ neg (con (pos 1)) ✶ (b ⊗ k ≗ d ⊗ n) ∷ []) refl

-- so both meet the same matrices
pub IsMetBy-same : (m : Judgements) (w v : List ℤ) (n k : ℤ) → pos 0 <ℤ k → SameFractions (over w n) (over v k) → IsMetBy m w n → IsMetBy m v k
IsMetBy-same m w v n k pk same h =
    let pn = h.scale.den_pos in
    let long : length w ≡ length v = sym (length-over w n) ∙ SameFractions-length (over w n) (over v k) same ∙ length-over v k in
    let last = sym (values_same w v n k (m.size - 1) same) ∙ ap (λ x. x *ℤ k) h.scale.last ∙ ring1 (λ k. con (pos 0) ⊗ k ≗ con (pos 0)) refl k in
    record {
      scale = record { den_pos = pk; each = sym long ∙ h.scale.each; last = zero_of_mul (value_at v m.size) n pn last };
      meets = record {
        lower = λ p q in_n. bound_same n k (pos (range_at m p q).lo) (difference w p q) (difference v p q) pn pk (differences_same w v n k p q same) (h.meets.lower p q in_n);
        zero = λ p q in_n e. zero_same n k (difference w p q) (difference v p q) pn pk (differences_same w v n k p q same) (h.meets.zero p q in_n e);
        cross = λ p q x y left right below.
            bound_same n k (pos (range_at m p q).lo -ℤ pos (range_at m x y).hi) (difference w p q -ℤ difference w x y) (difference v p q -ℤ difference v x y) pn pk
            (cross_same (difference w p q) (difference w x y) (difference v p q) (difference v x y) n k (differences_same w v n k p q same) (differences_same w v n k x y same))
            (h.meets.cross p q x y left right below);
      };
    }

-- ---- the order

-- a multiple of a list turned round
scale-reverse_aux : (c : ℤ) (xs ys : List ℤ) → scale c (reverse_aux xs ys) ≡ reverse_aux (scale c xs) (scale c ys)
scale-reverse_aux c [] ys = refl
scale-reverse_aux c (x ∷ xs) ys = scale-reverse_aux c xs (x ∷ ys)

scale-reverse : (c : ℤ) (xs : List ℤ) → scale c (reverse xs) ≡ reverse (scale c xs)
scale-reverse c xs = scale-reverse_aux c xs []

scale-drop : (c : ℤ) (xs : List ℤ) → scale c (drop 1 xs) ≡ drop 1 (scale c xs)
scale-drop c [] = refl
scale-drop c (x ∷ xs) = refl

key-scale : (c : ℤ) (xs : List ℤ) → order_key (scale c xs) ≡ scale c (order_key xs)
key-scale c [] = refl
key-scale c (x ∷ xs) = ap (λ l. (c *ℤ x) ∷ l) (sym (scale-drop c (reverse xs) ∙ ap (drop 1) (scale-reverse c xs)))

-- two writings have the same keys
key_same : (w v : List ℤ) (n k : ℤ) → SameFractions (over w n) (over v k) → SameFractions (over (order_key w) n) (over (order_key v) k)
key_same w v n k h =
    (SameFractions-over (order_key w) (order_key v) n k).1 (sym (key-scale k w) ∙ ap order_key ((SameFractions-over w v n k).0 h) ∙ key-scale n v)

-- so they are smaller than the same scales, and the same are smaller
pub IsSmaller-same : (w v x y : List ℤ) (n k l j : ℤ) → pos 0 <ℤ n → pos 0 <ℤ k → pos 0 <ℤ l → pos 0 <ℤ j → SameFractions (over w n) (over v k)
    → SameFractions (over x l) (over y j) → IsSmaller w n x l → IsSmaller v k y j
IsSmaller-same w v x y n k l j pn pk pl pj first second h =
    (LexLess-same (over (order_key w) n) (over (order_key v) k) (over (order_key x) l) (over (order_key y) j)
    (AreFractions-over (order_key w) n pn) (AreFractions-over (order_key v) k pk) (AreFractions-over (order_key x) l pl) (AreFractions-over (order_key y) j pj)
    (key_same w v n k first) (key_same x y l j second)).0 h

pub IsSmaller_irrefl : (w : List ℤ) (n : ℤ) → ¬ IsSmaller w n w n
IsSmaller_irrefl w n h = LexLess_irrefl (over (order_key w) n) h

pub IsSmaller-trans : (w v x : List ℤ) (n k l : ℤ) → pos 0 <ℤ n → pos 0 <ℤ k → pos 0 <ℤ l → IsSmaller w n v k → IsSmaller v k x l → IsSmaller w n x l
IsSmaller-trans w v x n k l pn pk pl h g =
    LexLess-trans (over (order_key w) n) (over (order_key v) k) (over (order_key x) l)
    (AreFractions-over (order_key w) n pn) (AreFractions-over (order_key v) k pk) (AreFractions-over (order_key x) l pl) h g

-- a list that isn't empty
front_and_rest : (x : ℤ) (xs : List ℤ) → x ∷ xs ≡ get_or (x ∷ xs) 0 (pos 0) ∷ drop 1 (x ∷ xs)
front_and_rest x xs = refl

-- lists turned round that differ in their last number alone, which is 0 in both
turned_same : (xs ys : List ℤ) → length xs ≡ length ys → get_or xs 0 (pos 0) ≡ pos 0 → get_or ys 0 (pos 0) ≡ pos 0 → drop 1 xs ≡ drop 1 ys → xs ≡ ys
turned_same [] [] long a b h = refl
turned_same [] (y ∷ ys) long a b h = absurd (omega (arith, long))
turned_same (x ∷ xs) [] long a b h = absurd (omega (arith, long))
turned_same (x ∷ xs) (y ∷ ys) long a b h = ap₂ (λ z l. z ∷ l) (a ∙ sym b) h

-- the first number of a list turned round
first_turned : (xs : List ℤ) → get_or xs (length xs - 1) (pos 0) ≡ pos 0 → get_or (reverse xs) 0 (pos 0) ≡ pos 0
first_turned [] h = refl
first_turned (x ∷ xs) h =
    let at : length (x ∷ xs) - 1 - 0 ≡ length (x ∷ xs) - 1 = omega arith in
    get_or-reverse (x ∷ xs) 0 (pos 0) (omega arith) ∙ ap (λ i. get_or (x ∷ xs) i (pos 0)) at ∙ h

-- the last number behind the first
last_behind : (x : ℤ) (xs : List ℤ) → get_or (x ∷ xs) (length (x ∷ xs) - 1) (pos 0) ≡ pos 0 → get_or xs (length xs - 1) (pos 0) ≡ pos 0
last_behind x [] h = refl
last_behind x (y ∷ ys) h =
    let at : length (x ∷ y ∷ ys) - 1 ≡ suc (length (y ∷ ys) - 1) = omega arith in
    ap (λ i. get_or (x ∷ y ∷ ys) i (pos 0)) (sym at) ∙ h

-- scales with the same key are the same
key_injective : (xs ys : List ℤ) → length xs ≡ length ys → get_or xs (length xs - 1) (pos 0) ≡ pos 0 → get_or ys (length ys - 1) (pos 0) ≡ pos 0
    → order_key xs ≡ order_key ys → xs ≡ ys
key_injective [] [] long a b h = refl
key_injective [] (y ∷ ys) long a b h = absurd (omega (arith, long))
key_injective (x ∷ xs) [] long a b h = absurd (omega (arith, long))
key_injective (x ∷ xs) (y ∷ ys) long a b h =
    let first : x ≡ y = ap (λ l. get_or l 0 (pos 0)) h in
    let behind : drop 1 (reverse xs) ≡ drop 1 (reverse ys) = ap (drop 1) h in
    let turned = turned_same (reverse xs) (reverse ys) (omega (arith, long, length-reverse xs, length-reverse ys)) (first_turned xs (last_behind x xs a)) (first_turned ys (last_behind y ys b)) behind in
    ap₂ (λ z l. z ∷ l) first (sym (reverse-reverse xs) ∙ ap reverse turned ∙ reverse-reverse ys)

-- a multiple of a number that is 0
scaled_zero : (c : ℤ) (xs : List ℤ) (i : ℕ) → get_or xs i (pos 0) ≡ pos 0 → get_or (scale c xs) i (pos 0) ≡ pos 0
scaled_zero c [] i h = refl
scaled_zero c (x ∷ xs) zero h = ap (λ z. c *ℤ z) h ∙ ring1 (λ c. c ⊗ con (pos 0) ≗ con (pos 0)) refl c
scaled_zero c (x ∷ xs) (suc i) h = scaled_zero c xs i h

-- of two scales one is smaller, or they are the same
pub IsSmaller-cases : (m : Judgements) (w v : List ℤ) (n k : ℤ) → IsScale m w n → IsScale m v k
    → IsSmaller w n v k ⊎ SameFractions (over w n) (over v k) ⊎ IsSmaller v k w n
IsSmaller-cases m w v n k first second =
    elim (LexLess-cases (over (order_key w) n) (over (order_key v) k)) [
      | inl below ↦ inl below
      | inr others ↦ elim others [
        | inl same ↦ inr (inl ((SameFractions-over w v n k).1 (whole same)))
        | inr above ↦ inr (inr above)
      ]
    ]
  where
    last : (c : ℤ) (xs : List ℤ) → length xs ≡ m.size → value_at xs m.size ≡ pos 0 → get_or (scale c xs) (length (scale c xs) - 1) (pos 0) ≡ pos 0
    last c xs long h =
        let at : length (scale c xs) - 1 ≡ m.size - 1 = omega (arith, long, length-scale c xs) in
        ap (λ i. get_or (scale c xs) i (pos 0)) at ∙ scaled_zero c xs (m.size - 1) h

    whole : SameFractions (over (order_key w) n) (over (order_key v) k) → scale k w ≡ scale n v
    whole same =
        key_injective (scale k w) (scale n v) (omega (arith, first.each, second.each, length-scale k w, length-scale n v)) (last k w first.each first.last) (last n v second.each second.last)
        (key-scale k w ∙ (SameFractions-over (order_key w) (order_key v) n k).0 same ∙ sym (key-scale n v))

-- a matrix has at most one least scale
pub IsLeastScale-unique : (m : Judgements) (w v : List ℤ) (n k : ℤ) → IsLeastScale m w n → IsLeastScale m v k → SameFractions (over w n) (over v k)
IsLeastScale-unique m w v n k first second =
    elim (IsSmaller-cases m w v n k first.is_met.scale second.is_met.scale) [
      | inl below ↦ absurd (second.none_smaller w n first.is_met below)
      | inr others ↦ elim others [ inl same ↦ same | inr above ↦ absurd (first.none_smaller v k second.is_met above) ]
    ]

-- ---- values

-- no value of a scale that meets a matrix is above an earlier one
pub values_fall : (m : Judgements) (w : List ℤ) (n : ℤ) (p q : ℕ) → IsMetBy m w n → IsPair m.size p q → value_at w q ≤ℤ value_at w p
values_fall m w n p q h in_n =
    let bound = h.meets.lower p q in_n in
    let above : pos 0 ≤ℤ (n *ℤ pos (range_at m p q).lo) = at_least_zero n (range_at m p q).lo (le_of_lt (pos 0) n h.scale.den_pos) in
    omega (arith, ints, bound, above)

-- zeros meet a matrix in which nothing is judged
pub zeros_meet : (n : ℕ) → IsMetBy (unjudged n) (replicate n (pos 0)) (pos 1)
zeros_meet n = record {
  scale = record { den_pos = lt_z_yes tt; each = length-replicate n (pos 0); last = get_or-zeros n (n - 1) };
  meets = record {
    lower = λ p q in_n. rw (ap (λ cell. cell.0.lo) (cell_at-unjudged n p q in_n)) (none p q (pos 1 *ℤ pos 0) refl);
    zero = λ p q in_n e. absurd (omega (arith, e, ap (λ cell. cell.0.hi) (cell_at-unjudged n p q in_n)));
    cross = λ p q x y left right below. absurd (omega (arith, below, ap (λ cell. cell.0.lo) (cell_at-unjudged n p q left)));
  };
}
  where
    none : (p q : ℕ) (z : ℤ) → z ≡ pos 0 → z ≤ℤ difference (replicate n (pos 0)) p q
    none p q z e =
        let first = get_or-zeros n (p - 1) in
        let second = get_or-zeros n (q - 1) in
        omega (arith, ints, e, first, second)
