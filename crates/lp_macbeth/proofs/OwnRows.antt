-- The matrix's own rows with the weights that they get: as many as rows, and the sums that they make.
use lib.IntN.{*ℤ-zero}
use lib.ListN.{length-append, length-replicate}
use Rattle.std.specs.Prelude.{◌==◌, nat_le, nat_lt, Bool, true, false}
use Rattle.std.specs.List.{filter, flat_map}
use Rattle.std.proofs.Common.{◌≡◌, ℕ, suc, ◌+◌, ◌-◌, List, [], ◌∷◌, ◌++◌, map, length, ℤ, pos, ◌+ℤ◌, ◌≤ℤ◌, refl, sym, ap, ap₂, subst, ◌∙◌, arith}
use Rattle.std.proofs.lemmas.List.{map-append, length-map}
use Rattle.std.proofs.lemmas.List.Elements.{All-map, All-replicate, All-weaker}
use Rattle.frac128.specs.Range.{IsInRange}
use Rattle.frac128.specs.Problem.{IsRow, IsProblem}
use Rattle.integers.specs.Vector.{dot}
use Rattle.integers.proofs.Laws.{lin}
use Rattle.integers.proofs.Vector.{dot-append}
use Rattle.judgement_matrix.specs.Matrix.{Judgements, IsMatrix, pairs, range_at}
use Rattle.judgement_matrix.specs.Rows.{IsTagAmong, lower_rows, zero_rows, cross_rows}
use Rattle.judgement_matrix.specs.declared.tag.Tag.{Tag}
use Rattle.judgement_matrix.specs.declared.tag.Tag.TheVariants.{Lower, Zero as Zeroed, Cross, Order}
use Rattle.lp_macbeth.specs.declared.threshold_tags.ThresholdTag.{ThresholdTag}
use Rattle.lp_macbeth.specs.declared.threshold_tags.ThresholdTag.TheVariants.{At as AtRow, Zero as ZeroRow, Below as BelowRow, Step}
use Rattle.lp_macbeth.specs.declared.kinds.Kind.TheVariants.{At, Zero, Below}
use Rattle.lp_macbeth.specs.Rows.{row_of, judged_rows, problem_of}
use Rattle.lp_macbeth.specs.Threshold.{threshold_rows, step_rows}
use Rattle.lp_macbeth.specs.Passing.{after_spread, passed, lost, lefts, takings, at_zero, ranges, own_weights}
use Rattle.lp_macbeth.proofs.PassLemmas.{rests, rests-none, AreCovered, AreLess, less-passed}
use Rattle.lp_macbeth.proofs.RangeLemmas.{IsRow-difference, IsRow-opposite, IsRow-cross, small_in_range}
use Rattle.lp_macbeth.proofs.TagLemmas.{All-judged_rows}
use Rattle.lp_macbeth.proofs.ThresholdLemmas.{IsRange-range_at}
use Rattle.lp_macbeth.proofs.WeightLemmas.{whole, numbers, AreOf, AreNone, spread-of, spread-none, at_zero-dot, of-less, length-lost, kept, none-dot}
use Rattle.lp_macbeth.proofs.RowSumLemmas.{ats_of, equals_of, belows_of, steps_of, threshold-dot}

-- ---- as many weights as rows

length-lefts : {X : Type 0} (lo : X → ℕ) (ls : List X) (ats xs : List (ℕ × ℕ)) → AreOf lo ls ats → length (lefts ats xs)
    ≡ length (filter (λ l. nat_le 1 (lo l)) ls)
length-lefts lo [] [] xs of = refl
length-lefts lo [] (at ∷ ats) xs of = absurd of
length-lefts lo (l ∷ ls) [] xs of = absurd of
length-lefts lo (l ∷ ls) (at ∷ ats) xs of = step (nat_le 1 at.0) refl (length-lefts lo ls ats (passed at.0 (at.1, xs)).1 of.1)
  where
    step : (b : Bool) → nat_le 1 at.0 ≡ b → length (lefts ats (passed at.0 (at.1, xs)).1) ≡ length (filter (λ l. nat_le 1 (lo l)) ls)
        → length (lefts (at ∷ ats) xs) ≡ length (filter (λ l. nat_le 1 (lo l)) (l ∷ ls))
    step true e rest =
        let f : nat_le 1 (lo l) ≡ true = ap (nat_le 1) (sym of.0) ∙ e in
        rw (e, f) (ap suc rest)
    step false e rest =
        let f : nat_le 1 (lo l) ≡ false = ap (nat_le 1) (sym of.0) ∙ e in
        rw (e, f) rest

pub length-at_zero : {X : Type 0} (category : X → ℕ) (ps : List X) (xs : List (ℕ × ℕ)) → AreOf category ps xs → length (at_zero xs)
    ≡ length (filter (λ p. category p == 0) ps)
length-at_zero category [] [] of = refl
length-at_zero category [] (x ∷ xs) of = absurd of
length-at_zero category (p ∷ ps) [] of = absurd of
length-at_zero category (p ∷ ps) (x ∷ xs) of = step (x.0 == 0) refl (length-at_zero category ps xs of.1)
  where
    step : (b : Bool) → (x.0 == 0) ≡ b → length (at_zero xs) ≡ length (filter (λ p. category p == 0) ps)
        → length (at_zero (x ∷ xs)) ≡ length (filter (λ p. category p == 0) (p ∷ ps))
    step true e rest =
        let f : (category p == 0) ≡ true = ap (λ c. c == 0) (sym of.0) ∙ e in
        rw (e, f) (ap suc rest)
    step false e rest =
        let f : (category p == 0) ≡ false = ap (λ c. c == 0) (sym of.0) ∙ e in
        rw (e, f) rest

pub length-takings : {X T : Type 0} (lo hi : X → ℕ) (cross : X → X → T) (ps ls : List X) (ats xs : List (ℕ × ℕ)) → AreOf lo ls ats → AreOf hi ps xs
    → length (takings ats xs) ≡ length (flat_map (λ l. map (cross l) (filter (λ q. nat_lt (hi q) (lo l)) ps)) ls)
length-takings lo hi cross ps [] [] xs of own = refl
length-takings lo hi cross ps [] (at ∷ ats) xs of own = absurd of
length-takings lo hi cross ps (l ∷ ls) [] xs of own = absurd of
length-takings {X} {T} lo hi cross ps (l ∷ ls) (at ∷ ats) xs of own =
    let ys : List (ℕ × ℕ) = (passed at.0 (at.1, xs)).1 in
    let less : AreLess at.0 xs ys = less-passed at.0 at.1 xs in
    let rest = length-takings lo hi cross ps ls ats ys of.1 (of-less hi at.0 ps xs ys own less) in
    let under : List X = filter (λ q. nat_lt (hi q) (lo l)) ps in
    let first : length (lost at.0 xs ys) ≡ length under =
    subst (λ c. length (lost at.0 xs ys) ≡ length (filter (λ q. nat_lt (hi q) c) ps)) of.0 (length-lost hi at.0 ps xs ys own less) in
    let more : List T = flat_map (λ l. map (cross l) (filter (λ q. nat_lt (hi q) (lo l)) ps)) ls in
    omega (arith, rest, first, length-append (lost at.0 xs ys) (takings ats ys), length-append (map (cross l) under) more, length-map under (cross l))

-- the parts are of the ranges
ats-of : (m : Judgements) (ws : List ℕ) → AreOf (λ pair. (range_at m pair.0 pair.1).lo) (pairs m.size) (ats_of (ranges m) ws)
ats-of m ws = spread-of At (λ (pair : ℕ × ℕ). range_at m pair.0 pair.1) (pairs m.size) ws

equals-of : (m : Judgements) (ws : List ℕ) → AreOf (λ pair. (range_at m pair.0 pair.1).hi) (pairs m.size) (equals_of (ranges m) ws)
equals-of m ws = spread-of Zero (λ (pair : ℕ × ℕ). range_at m pair.0 pair.1) (pairs m.size) (after_spread At (ranges m) ws)

belows-of : (m : Judgements) (ws : List ℕ) → AreOf (λ pair. (range_at m pair.0 pair.1).hi) (pairs m.size) (belows_of (ranges m) ws)
belows-of m ws = spread-of Below (λ (pair : ℕ × ℕ). range_at m pair.0 pair.1) (pairs m.size) (after_spread Zero (ranges m) (after_spread At (ranges m) ws))

pub parts_are_of : (m : Judgements) (ws : List ℕ)
    → AreOf (λ pair. (range_at m pair.0 pair.1).lo) (pairs m.size) (ats_of (ranges m) ws) × AreOf (λ pair. (range_at m pair.0 pair.1).hi) (pairs m.size)
    (belows_of (ranges m) ws)
parts_are_of m ws = (ats-of m ws, belows-of m ws)

length-lower : (m : Judgements) (ws : List ℕ) → length (lefts (ats_of (ranges m) ws) (belows_of (ranges m) ws)) ≡ length (lower_rows m)
length-lower m ws =
    length-lefts (λ (pair : ℕ × ℕ). (range_at m pair.0 pair.1).lo) (pairs m.size) (ats_of (ranges m) ws) (belows_of (ranges m) ws) (ats-of m ws)
    ∙ sym (length-map (filter (λ (pair : ℕ × ℕ). nat_le 1 (range_at m pair.0 pair.1).lo) (pairs m.size)) (λ (pair : ℕ × ℕ). Lower pair.0 pair.1))

length-zero : (m : Judgements) (ws : List ℕ) → length (at_zero (equals_of (ranges m) ws)) ≡ length (zero_rows m)
length-zero m ws =
    length-at_zero (λ (pair : ℕ × ℕ). (range_at m pair.0 pair.1).hi) (pairs m.size) (equals_of (ranges m) ws) (equals-of m ws)
    ∙ sym (length-map (filter (λ (pair : ℕ × ℕ). (range_at m pair.0 pair.1).hi == 0) (pairs m.size)) (λ (pair : ℕ × ℕ). Zeroed pair.0 pair.1))

length-cross : (m : Judgements) (ws : List ℕ) → length (takings (ats_of (ranges m) ws) (belows_of (ranges m) ws)) ≡ length (cross_rows m)
length-cross m ws =
    length-takings (λ (pair : ℕ × ℕ). (range_at m pair.0 pair.1).lo) (λ (pair : ℕ × ℕ). (range_at m pair.0 pair.1).hi) (λ (l r : ℕ × ℕ). Cross l.0 l.1 r.0 r.1)
    (pairs m.size) (pairs m.size) (ats_of (ranges m) ws) (belows_of (ranges m) ws) (ats-of m ws) (belows-of m ws)

pub length-own_weights : (m : Judgements) (ws : List ℕ) → length (own_weights (ranges m) ws) ≡ length (judged_rows m)
length-own_weights m ws =
    let first : List ℕ = lefts (ats_of (ranges m) ws) (belows_of (ranges m) ws) in
    let second : List ℕ = at_zero (equals_of (ranges m) ws) in
    let third : List ℕ = takings (ats_of (ranges m) ws) (belows_of (ranges m) ws) in
    omega (
      arith,
      length-append (first ++ second) third,
      length-append first second,
      length-append (lower_rows m ++ zero_rows m) (cross_rows m),
      length-append (lower_rows m) (zero_rows m),
      length-lower m ws,
      length-zero m ws,
      length-cross m ws,
    )

-- ---- the sums that they make

-- numbers of the pairs as numbers of the rows of both problems
abbrev pub own_number : (a b z : ℕ → ℕ → ℤ) (o : ℕ → ℤ) → Tag → ℤ
own_number a b z o (Lower p q) = a p q
own_number a b z o (Zeroed p q) = z p q
own_number a b z o (Cross p q x y) = a p q +ℤ b x y
own_number a b z o (Order p) = o p

abbrev pub threshold_number : (a b z : ℕ → ℕ → ℤ) → ThresholdTag → ℤ
threshold_number a b z (AtRow p q) = a p q
threshold_number a b z (ZeroRow p q) = z p q
threshold_number a b z (BelowRow p q) = b p q
threshold_number a b z (Step k) = pos 0

-- products with numbers that are all 0
pub dot-none : {X : Type 0} (ws : List ℤ) (xs : List X) → dot ws (map (λ x. pos 0) xs) ≡ pos 0
dot-none [] xs = refl
dot-none (w ∷ ws) [] = refl
dot-none (w ∷ ws) (x ∷ xs) = ap₂ (λ a b. a +ℤ b) (*ℤ-zero w) (dot-none ws xs)

-- what sums over the threshold problem's rows come to, by pairs
pub threshold_number-dot : (m : Judgements) (a b z : ℕ → ℕ → ℤ) (ws : List ℕ)
    → dot (whole ws) (map (threshold_number a b z) (threshold_rows m))
    ≡ dot (numbers (ats_of (ranges m) ws)) (map (λ pair. a pair.0 pair.1) (pairs m.size))
    +ℤ (dot (numbers (equals_of (ranges m) ws)) (map (λ pair. z pair.0 pair.1) (pairs m.size))
    +ℤ dot (numbers (belows_of (ranges m) ws)) (map (λ pair. b pair.0 pair.1) (pairs m.size)))
threshold_number-dot m a b z ws =
    let steps : dot (whole (steps_of (ranges m) ws)) (map (threshold_number a b z) step_rows) ≡ pos 0 = dot-none (whole (steps_of (ranges m) ws)) step_rows in
    let all = threshold-dot m (threshold_number a b z) ws in
    omega (arith, lin, all, steps)

pub carried-dot : (m : Judgements) (a b z : ℕ → ℕ → ℤ) (o : ℕ → ℤ) (ws : List ℕ) → AreCovered (ats_of (ranges m) ws) (belows_of (ranges m) ws)
    → dot (whole (own_weights (ranges m) ws)) (map (own_number a b z o) (judged_rows m)) ≡ dot (whole ws) (map (threshold_number a b z) (threshold_rows m))
carried-dot m a b z o ws covered =
    let ps : List (ℕ × ℕ) = pairs m.size in
    let f : Tag → ℤ = own_number a b z o in
    let ats : List (ℕ × ℕ) = ats_of (ranges m) ws in
    let equals : List (ℕ × ℕ) = equals_of (ranges m) ws in
    let belows : List (ℕ × ℕ) = belows_of (ranges m) ws in
    let first : List ℕ = lefts ats belows in
    let second : List ℕ = at_zero equals in
    let third : List ℕ = takings ats belows in
    let whole_apart : whole (own_weights (ranges m) ws) ≡ (whole first ++ whole second) ++ whole third =
    map-append (λ w. pos w) (first ++ second) third ∙ ap (λ xs. xs ++ whole third) (map-append (λ w. pos w) first second) in
    let rows_apart : map f (judged_rows m) ≡ (map f (lower_rows m) ++ map f (zero_rows m)) ++ map f (cross_rows m) =
    map-append f (lower_rows m ++ zero_rows m) (cross_rows m) ∙ ap (λ xs. xs ++ map f (cross_rows m)) (map-append f (lower_rows m) (zero_rows m)) in
    let few : length (whole first) ≡ length (map f (lower_rows m)) = length-map first (λ w. pos w) ∙ length-lower m ws ∙ sym (length-map (lower_rows m) f) in
    let few_zero : length (whole second) ≡ length (map f (zero_rows m)) = length-map second (λ w. pos w) ∙ length-zero m ws
    ∙ sym (length-map (zero_rows m) f) in
    let both : length (whole first ++ whole second) ≡ length (map f (lower_rows m) ++ map f (zero_rows m)) =
    length-append (whole first) (whole second) ∙ ap₂ (λ x y. x + y) few few_zero ∙ sym (length-append (map f (lower_rows m)) (map f (zero_rows m))) in
    let apart : dot (whole (own_weights (ranges m) ws)) (map f (judged_rows m))
    ≡ (dot (whole first) (map f (lower_rows m)) +ℤ dot (whole second) (map f (zero_rows m))) +ℤ dot (whole third) (map f (cross_rows m)) =
    ap₂ dot whole_apart rows_apart ∙ dot-append (whole first ++ whole second) (whole third) (map f (lower_rows m) ++ map f (zero_rows m))
    (map f (cross_rows m)) both
    ∙ ap (λ s. s +ℤ dot (whole third) (map f (cross_rows m))) (dot-append (whole first) (whole second) (map f (lower_rows m)) (map f (zero_rows m)) few) in
    let none_ats : AreNone (nat_le 1) ats = spread-none At (nat_le 1) (λ r h. h) (ranges m) ws in
    let none_equals : AreNone (λ c. c == 0) equals = spread-none Zero (λ c. c == 0) (λ r h. h) (ranges m) (after_spread At (ranges m) ws) in
    let zeros : dot (whole second) (map f (zero_rows m)) ≡ dot (numbers equals) (map (λ pair. z pair.0 pair.1) ps) =
    at_zero-dot (λ (pair : ℕ × ℕ). (range_at m pair.0 pair.1).hi) (λ (pair : ℕ × ℕ). Zeroed pair.0 pair.1) f ps equals (equals-of m ws) none_equals in
    let same = kept (λ (pair : ℕ × ℕ). (range_at m pair.0 pair.1).lo) (λ (pair : ℕ × ℕ). (range_at m pair.0 pair.1).hi) (λ (pair : ℕ × ℕ). Lower pair.0 pair.1)
    (λ (l r : ℕ × ℕ). Cross l.0 l.1 r.0 r.1) f (λ pair. a pair.0 pair.1) (λ pair. b pair.0 pair.1) (λ l. refl) (λ l q. refl) ps ps ats belows (ats-of m ws)
    none_ats (belows-of m ws) in
    let gone : dot (numbers (rests ats belows)) (map (λ pair. b pair.0 pair.1) ps)
    ≡ pos 0 = none-dot (rests ats belows) (map (λ pair. b pair.0 pair.1) ps) (rests-none ats belows covered) in
    let thresholds = threshold_number-dot m a b z ws in
    omega (arith, lin, apart, zeros, same, gone, thresholds)

-- ---- the problem is one

IsRow-row_of : (m : Judgements) → IsMatrix m → (tag : Tag) → IsTagAmong m.size tag → IsRow (m.size - 1) (row_of m tag)
IsRow-row_of m matrix (Lower p q) among = let range = IsRange-range_at m matrix p q in IsRow-difference m.size p q (range_at m p q).lo among
    (omega (arith, range.0, range.1))
IsRow-row_of m matrix (Zeroed p q) among = IsRow-opposite m.size p q among
IsRow-row_of m matrix (Cross p q x y) among =
    let left = IsRange-range_at m matrix p q in
    let right = IsRange-range_at m matrix x y in
    IsRow-cross m.size p q x y (range_at m p q).lo (range_at m x y).hi among.0 among.1 (omega (arith, left.0, left.1)) (omega (arith, right.1))
IsRow-row_of m matrix (Order p) among = IsRow-difference m.size p (p + 1) 0 (among.0, omega arith, omega (arith, among.1)) (omega arith)

pub IsProblem-own : (m : Judgements) → IsMatrix m → IsProblem (problem_of m)
IsProblem-own m matrix = record {
  one_each = length-replicate (m.size - 1) (pos 1);
  cost_nonneg = All-replicate (λ x. pos 0 ≤ℤ x) (m.size - 1) (pos 1) (omega (arith, lin));
  cost_in_range = All-replicate IsInRange (m.size - 1) (pos 1) (small_in_range (pos 1) (omega arith));
  rows_fit = All-map (IsRow (m.size - 1)) (row_of m) (judged_rows m)
      (All-weaker (IsTagAmong m.size) (λ tag. IsRow (m.size - 1) (row_of m tag)) (IsRow-row_of m matrix) (judged_rows m) (All-judged_rows m));
}
