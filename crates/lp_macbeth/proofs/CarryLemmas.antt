-- What a certificate shows of the threshold problem, its multipliers carried to the matrix's own rows show of the matrix's problem.
use lib.IntN.{+ℤ_idl, zero-*ℤ, *ℤ-zero}
use lib.ListN.{length-replicate, get_or-append}
use Rattle.std.specs.Prelude.{nat_le, cond, Bool, true, false, ◌⊎◌, ◌&&◌}
use Rattle.std.proofs.Common.{◌≡◌, inl, inr, ℕ, zero, suc, ◌+◌, ◌-◌, ◌<◌, ◌≤◌, List, [], ◌∷◌, ◌++◌, All, map, length, get_or, replicate, ℤ, pos, negsuc, neg_ℤ, ◌+ℤ◌, ◌-ℤ◌, ◌*ℤ◌, ◌≤ℤ◌, ◌<ℤ◌, refl, sym, ap, ap₂, subst, subst₂, ◌∙◌, arith}
use Rattle.std.specs.Int.Signed.{≤ℤ_refl}
use Rattle.std.proofs.lemmas.Bool.{le-leb, cases_lt}
use Rattle.std.proofs.lemmas.Grind.{common_steps}
use Rattle.std.proofs.lemmas.List.{length-map}
use Rattle.std.proofs.lemmas.List.Elements.{All-nil, All-cons, All-head, All-tail, All-append, All-replicate}
use Rattle.frac128.specs.Entries.{entries_from}
use Rattle.frac128.specs.Problem.{ProblemData, AreRowMultipliers, multipliers, rows_on, combination, IsSpanCertificate, IsFarkasCertificate}
use Rattle.frac128.specs.declared.problem.Cert.{Cert}
use Rattle.frac128.specs.declared.problem.Row.{Row}
use Rattle.frac128.proofs.Combination.{get_or-combination, column_of-map, below_cost-from_places, below_cost-at}
use Rattle.frac128.proofs.EntriesLemmas.{AreRowMultipliers-from, entries-bound, entries-coef}
use Rattle.integers.specs.Fraction.{Fraction, SameFraction}
use Rattle.integers.specs.Vector.{dot, scale, dot_each, AreNonNegative, AreAtMost}
use Rattle.integers.proofs.Laws.{lin, one-*ℤ, minus_one-*ℤ}
use Rattle.integers.proofs.Ring.{con, ◌⊕◌, ◌⊗◌, ◌≗◌, ring3, ring2, ◌⊖◌}
use Rattle.integers.proofs.Vector.{dot-append, dot-add, dot-set, dot-scale, dot_comm, dot-zeros, dot-weighted_sum}
use Rattle.integers.proofs.VectorLaws.{get_or-add}
use Rattle.integers.proofs.VectorOrder.{dot_le, dot_le_right, AreAtMost-nil, AreAtMost-at, none_above_zero}
use Rattle.integers.proofs.Zeros.{get_or-zeros}
use Rattle.judgement_matrix.specs.Matrix.{Judgements, IsMatrix, pairs, range_at}
use Rattle.judgement_matrix.specs.Rows.{IsTagAmong}
use Rattle.judgement_matrix.specs.declared.tag.Tag.{Tag}
use Rattle.judgement_matrix.specs.declared.tag.Tag.TheVariants.{Lower, Zero as Zeroed, Cross, Order}
use Rattle.lp_macbeth.specs.declared.threshold_tags.ThresholdTag.{ThresholdTag}
use Rattle.lp_macbeth.specs.declared.threshold_tags.ThresholdTag.TheVariants.{At as AtRow, Zero as ZeroRow, Below as BelowRow, Step}
use Rattle.lp_macbeth.specs.declared.kinds.Kind.TheVariants.{At, Zero, Below}
use Rattle.lp_macbeth.specs.Gaps.{gap_coefs, opposite}
use Rattle.lp_macbeth.specs.Rows.{row_of, judged_rows, problem_of}
use Rattle.lp_macbeth.specs.Threshold.{threshold, threshold_step, threshold_rows, threshold_row_of, threshold_problem_of, IsThresholdTagOf}
use Rattle.lp_macbeth.specs.Passing.{with_entries, after_spread, ranges, own_weights}
use Rattle.lp_macbeth.specs.Translated.{IsCarried, ProvesThreshold}
use Rattle.lp_macbeth.proofs.CoefLemmas.{length-gap_coefs, length-opposite}
use Rattle.lp_macbeth.proofs.ThresholdTagLemmas.{All-threshold_rows}
use Rattle.lp_macbeth.proofs.ThresholdLemmas.{IsRange-range_at}
use Rattle.lp_macbeth.proofs.TagLemmas.{All-judged_rows}
use Rattle.lp_macbeth.proofs.PassLemmas.{from, from_falls, AreCovered}
use Rattle.lp_macbeth.proofs.WeightLemmas.{whole, numbers, AreOf, AreNone, spread-none}
use Rattle.lp_macbeth.proofs.RowSumLemmas.{entries-dot, ats_of, equals_of, belows_of}
use Rattle.lp_macbeth.proofs.OwnRows.{parts_are_of, length-own_weights, own_number, threshold_number, threshold_number-dot, carried-dot, IsProblem-own}

-- ---- the weights of a certificate

-- a weight for each row of the threshold problem
abbrev pub threshold_weights : Judgements → List (ℕ × ℤ) → List ℕ
threshold_weights m on = with_entries (replicate (length (threshold_rows m)) 0) on

-- the weights of the matrix's own rows that they make, as whole numbers
abbrev pub own_numbers : Judgements → List (ℕ × ℤ) → List ℤ
own_numbers m on = map (λ w. pos w) (own_weights (ranges m) (threshold_weights m on))

-- ---- numbers of rows by their tags

pub rows_are : {T : Type 0} (row : T → Row) (h : Row → ℤ) (g : T → ℤ) (P : T → Type 0) → ((t : T) → P t → h (row t) ≡ g t) → (ts : List T) → All P ts
    → map h (map row ts) ≡ map g ts
rows_are row h g P same [] all = refl
rows_are row h g P same (t ∷ ts) all = ap₂ (λ x xs. x ∷ xs) (same t (All-head P t ts all)) (rows_are row h g P same ts (All-tail P t ts all))

pub rows_at_least : {T : Type 0} (row : T → Row) (h : Row → ℤ) (g : T → ℤ) (P : T → Type 0) → ((t : T) → P t → g t ≤ℤ h (row t)) → (ts : List T) → All P ts
    → AreAtMost (map g ts) (map h (map row ts))
rows_at_least row h g P most [] all = tt
rows_at_least row h g P most (t ∷ ts) all = (most t (All-head P t ts all), rows_at_least row h g P most ts (All-tail P t ts all))

pub whole_nonneg : (ws : List ℕ) → AreNonNegative (whole ws)
whole_nonneg [] = All-nil (λ x. pos 0 ≤ℤ x)
whole_nonneg (w ∷ ws) = All-cons (λ x. pos 0 ≤ℤ x) (pos w) (whole ws) (omega (arith, lin)) (whole_nonneg ws)

-- the rows' products with a list
dot_each-rows : (u : List ℤ) (rows : List Row) → dot_each (map (λ (r : Row). r.coefs) rows) u ≡ map (λ (r : Row). dot r.coefs u) rows
dot_each-rows u [] = refl
dot_each-rows u (r ∷ rows) = ap (λ xs. dot r.coefs u ∷ xs) (dot_each-rows u rows)

pub combination-dot : (p : ProblemData) (on : List (ℕ × ℤ)) (u : List ℤ) → dot (combination p on).coefs u
    ≡ dot (multipliers on) (map (λ (r : Row). dot r.coefs u) (rows_on p.rows on))
combination-dot p on u =
    let zeros : List ℤ = replicate p.vars (pos 0) in
    let none : dot zeros u ≡ pos 0 = dot_comm zeros u ∙ dot-zeros u p.vars in
    let apart = dot-weighted_sum (multipliers on) (map (λ (r : Row). r.coefs) (rows_on p.rows on)) u in
    let each = ap (dot (multipliers on)) (dot_each-rows u (rows_on p.rows on)) in
    dot-add zeros _ u ∙ omega (arith, lin, none, apart, each)

-- ---- the thresholds from one on

-- 1 where a number is at least j
abbrev pub flag : ℕ → ℕ → ℤ
flag j k = cond (nat_le j k) (pos 1) (pos 0)

abbrev pub flags : ℕ → List ℤ
flags j = flag j 1 ∷ flag j 2 ∷ flag j 3 ∷ flag j 4 ∷ flag j 5 ∷ []

-- 1 for the thresholds from j on
abbrev pub upper : ℕ → ℕ → List ℤ
upper n j = replicate (n - 1) (pos 0) ++ flags j

flag-none : (j : ℕ) → flag (suc j) 0 ≡ pos 0
flag-none j =
    let e : nat_le (suc j) 0 ≡ false = grind (arith, common_steps) in
    rw e refl

get_or-flags : (j k : ℕ) → k < 5 → get_or (flags j) k (pos 0) ≡ flag j (suc k)
get_or-flags j zero l = refl
get_or-flags j (suc zero) l = refl
get_or-flags j (suc (suc zero)) l = refl
get_or-flags j (suc (suc (suc zero))) l = refl
get_or-flags j (suc (suc (suc (suc zero)))) l = refl
get_or-flags j (suc (suc (suc (suc (suc k))))) l = absurd (omega arith)

dot-threshold : (k : ℕ) (c : ℤ) (j : ℕ) → k ≤ 5 → dot (threshold k c) (flags (suc j)) ≡ c *ℤ flag (suc j) k
dot-threshold zero c j l =
    dot_comm (replicate 5 (pos 0)) (flags (suc j)) ∙ dot-zeros (flags (suc j)) 5 ∙ sym (ap (λ z. c *ℤ z) (flag-none j) ∙ *ℤ-zero c)
dot-threshold (suc k) c j l =
    let zeros : List ℤ = replicate 5 (pos 0) in
    let none : dot zeros (flags (suc j)) ≡ pos 0 = dot_comm zeros (flags (suc j)) ∙ dot-zeros (flags (suc j)) 5 in
    dot-set zeros (flags (suc j)) k c (omega (arith, length-replicate 5 (pos 0)))
    ∙ ap₂ (λ a b. a +ℤ (c -ℤ b) *ℤ get_or (flags (suc j)) k (pos 0)) none (get_or-zeros 5 k)
    ∙ ap (λ z. pos 0 +ℤ (c -ℤ pos 0) *ℤ z) (get_or-flags (suc j) k (omega arith))
    ∙ ring2 (λ c z. con (pos 0) ⊕ (c ⊖ con (pos 0)) ⊗ z ≗ c ⊗ z) refl c (flag (suc j) (suc k))

-- flags rise
flag_rises : (j k : ℕ) → flag j (k - 1) ≤ℤ flag j k
flag_rises j k = step (cases_lt k j)
  where
    most : (b : Bool) → cond b (pos 1) (pos 0) ≤ℤ pos 1
    most true = ≤ℤ_refl (pos 1)
    most false = omega (arith, lin)

    step : (k < j) ⊎ (j ≤ k) → flag j (k - 1) ≤ℤ flag j k
    step (inl l) =
        let e : nat_le j k ≡ false = grind (arith, common_steps) in
        let f : nat_le j (k - 1) ≡ false = grind (arith, common_steps) in
        rw (e, f) (≤ℤ_refl (pos 0))
    step (inr l) =
        let e : nat_le j k ≡ true = le-leb j k l in
        rw e (most (nat_le j (k - 1)))

-- the numbers that rows have for them, by tags
abbrev pub at_flag : Judgements → ℕ → ℕ → ℕ → ℤ
at_flag m j p q = negsuc 0 *ℤ flag (suc j) (range_at m p q).lo

abbrev pub below_flag : Judgements → ℕ → ℕ → ℕ → ℤ
below_flag m j p q = pos 1 *ℤ flag j (range_at m p q).hi

abbrev pub no_flag : ℕ → ℕ → ℤ
no_flag p q = pos 0

-- a row of two parts with the thresholds
parts-dot : (n : ℕ) (xs ts : List ℤ) (j : ℕ) → length xs ≡ n - 1 → dot (xs ++ ts) (upper n j) ≡ dot ts (flags j)
parts-dot n xs ts j l =
    dot-append xs ts (replicate (n - 1) (pos 0)) (flags j) (l ∙ sym (length-replicate (n - 1) (pos 0)))
    ∙ ap (λ z. z +ℤ dot ts (flags j)) (dot-zeros xs (n - 1)) ∙ +ℤ_idl (dot ts (flags j))

flag_below_lo : (j lo : ℕ) → 1 ≤ lo → flag j (lo - 1) ≡ flag (suc j) lo
flag_below_lo j lo l =
    let e : nat_le j (lo - 1) ≡ nat_le (suc j) lo = grind (arith, common_steps) in
    ap (λ b. cond b (pos 1) (pos 0)) e

pub tag_flags : (m : Judgements) → IsMatrix m → (j : ℕ) (tag : ThresholdTag) → IsThresholdTagOf m tag
    → threshold_number (at_flag m (suc j)) (below_flag m (suc j)) no_flag tag ≤ℤ dot (threshold_row_of m tag).coefs (upper m.size (suc j))
tag_flags m matrix j (AtRow p q) of =
    let range = IsRange-range_at m matrix p q in
    let lo : ℕ = (range_at m p q).lo in
    let value = parts-dot m.size (gap_coefs m.size p q) (threshold (lo - 1) (negsuc 0)) (suc j) (length-gap_coefs m.size p q of.0)
    ∙ dot-threshold (lo - 1) (negsuc 0) j (omega (arith, range.0, range.1)) ∙ ap (λ z. negsuc 0 *ℤ z) (flag_below_lo (suc j) lo of.1) in
    subst (λ z. at_flag m (suc j) p q ≤ℤ z) (sym value) (≤ℤ_refl (at_flag m (suc j) p q))
tag_flags m matrix j (ZeroRow p q) of =
    let value = parts-dot m.size (opposite (gap_coefs m.size p q)) (threshold 0 (pos 0)) (suc j)
    (length-opposite (gap_coefs m.size p q) ∙ length-gap_coefs m.size p q of)
    ∙ dot-threshold 0 (pos 0) j (omega arith) ∙ zero-*ℤ (flag (suc j) 0) in
    subst (λ z. pos 0 ≤ℤ z) (sym value) (≤ℤ_refl (pos 0))
tag_flags m matrix j (BelowRow p q) of =
    let hi : ℕ = (range_at m p q).hi in
    let value = parts-dot m.size (opposite (gap_coefs m.size p q)) (threshold hi (pos 1)) (suc j)
    (length-opposite (gap_coefs m.size p q) ∙ length-gap_coefs m.size p q of.0)
    ∙ dot-threshold hi (pos 1) j of.1 in
    subst (λ z. below_flag m (suc j) p q ≤ℤ z) (sym value) (≤ℤ_refl (below_flag m (suc j) p q))
tag_flags m matrix j (Step k) of =
    let apart : dot (threshold_step k) (flags (suc j)) ≡ dot (threshold k (pos 1)) (flags (suc j)) +ℤ dot (threshold (k - 1) (negsuc 0)) (flags (suc j)) =
    dot-add (threshold k (pos 1)) (threshold (k - 1) (negsuc 0)) (flags (suc j)) in
    let up = dot-threshold k (pos 1) j of.1 in
    let down = dot-threshold (k - 1) (negsuc 0) j (omega (arith, of.1)) in
    let rises = flag_rises (suc j) k in
    let value = parts-dot m.size (replicate (m.size - 1) (pos 0)) (threshold_step k) (suc j) (length-replicate (m.size - 1) (pos 0)) in
    let above : pos 0 ≤ℤ dot (threshold_step k) (flags (suc j)) = omega
    (arith, lin, apart, up, down, rises, one-*ℤ (flag (suc j) k), minus_one-*ℤ (flag (suc j) (k - 1))) in
    subst (λ z. pos 0 ≤ℤ z) (sym value) above

-- flags sum up weights from a category on
flags-dot : {X : Type 0} (category : X → ℕ) (c : ℤ) (j : ℕ) (ps : List X) (xs : List (ℕ × ℕ)) → AreOf category ps xs
    → dot (numbers xs) (map (λ p. c *ℤ flag j (category p)) ps) ≡ c *ℤ pos (from j xs)
flags-dot category c j [] [] of = sym (*ℤ-zero c)
flags-dot category c j [] (x ∷ xs) of = absurd of
flags-dot category c j (p ∷ ps) [] of = absurd of
flags-dot category c j (p ∷ ps) (x ∷ xs) of =
    subst (λ k. pos x.1 *ℤ (c *ℤ flag j k) +ℤ dot (numbers xs) (map (λ p. c *ℤ flag j (category p)) ps) ≡ c *ℤ pos (from j (x ∷ xs))) of.0
    (step (nat_le j x.0) (flags-dot category c j ps xs of.1))
  where
    step : (b : Bool) → dot (numbers xs) (map (λ p. c *ℤ flag j (category p)) ps) ≡ c *ℤ pos (from j xs)
        → pos x.1 *ℤ (c *ℤ cond b (pos 1) (pos 0)) +ℤ dot (numbers xs) (map (λ p. c *ℤ flag j (category p)) ps) ≡ c *ℤ pos (cond b x.1 0 + from j xs)
    step true rest =
        let total : pos (x.1 + from j xs) ≡ pos x.1 +ℤ pos (from j xs) = omega (arith, lin) in
        ap (λ z. pos x.1 *ℤ (c *ℤ pos 1) +ℤ z) rest
        ∙ ring3 (λ x c y. x ⊗ (c ⊗ con (pos 1)) ⊕ c ⊗ y ≗ c ⊗ (x ⊕ y)) refl (pos x.1) c (pos (from j xs)) ∙ ap (λ z. c *ℤ z) (sym total)
    step false rest =
        let total : 0 + from j xs ≡ from j xs = omega arith in
        ap (λ z. pos x.1 *ℤ (c *ℤ pos 0) +ℤ z) rest
        ∙ ring3 (λ x c y. x ⊗ (c ⊗ con (pos 0)) ⊕ c ⊗ y ≗ c ⊗ y) refl (pos x.1) c (pos (from j xs)) ∙ ap (λ n. c *ℤ pos n) (sym total)

-- products with 0
pub no_flags-dot : (ws : List ℤ) (ps : List (ℕ × ℕ)) → dot ws (map (λ pair. no_flag pair.0 pair.1) ps) ≡ pos 0
no_flags-dot [] ps = refl
no_flags-dot (w ∷ ws) [] = refl
no_flags-dot (w ∷ ws) (p ∷ ps) = ap₂ (λ a b. a +ℤ b) (*ℤ-zero w) (no_flags-dot ws ps)

-- ---- what ends from a category on is no more than what begins above it

pub covered_from_flags : (m : Judgements) (j : ℕ) (ats belows : List (ℕ × ℕ)) → AreOf (λ pair. (range_at m pair.0 pair.1).lo) (pairs m.size) ats
    → AreOf (λ pair. (range_at m pair.0 pair.1).hi) (pairs m.size) belows
    → (dot (numbers ats) (map (λ pair. at_flag m (suc j) pair.0 pair.1) (pairs m.size))
    +ℤ dot (numbers belows) (map (λ pair. below_flag m (suc j) pair.0 pair.1) (pairs m.size))) ≤ℤ pos 0
    → from (suc j) belows ≤ from (suc (suc j)) ats
covered_from_flags m j ats belows of_ats of_belows low =
    let at = flags-dot (λ (pair : ℕ × ℕ). (range_at m pair.0 pair.1).lo) (negsuc 0) (suc (suc j)) (pairs m.size) ats of_ats in
    let below = flags-dot (λ (pair : ℕ × ℕ). (range_at m pair.0 pair.1).hi) (pos 1) (suc j) (pairs m.size) belows of_belows in
    omega (arith, lin, at, below, low)

covered_above : (m : Judgements) → IsMatrix m → (on : List (ℕ × ℤ)) → AreRowMultipliers (length (threshold_problem_of m).rows) on → (ws : List ℕ) → ws
    ≡ threshold_weights m on
    → (j : ℕ) → dot (combination (threshold_problem_of m) on).coefs (upper m.size (suc j)) ≤ℤ pos 0
    → from (suc j) (belows_of (ranges m) ws) ≤ from (suc (suc j)) (ats_of (ranges m) ws)
covered_above m matrix on are ws is j none =
    let u : List ℤ = upper m.size (suc j) in
    let h : Row → ℤ = λ r. dot r.coefs u in
    let g : ThresholdTag → ℤ = threshold_number (at_flag m (suc j)) (below_flag m (suc j)) no_flag in
    let rows : List Row = map (threshold_row_of m) (threshold_rows m) in
    let count : length rows ≡ length (threshold_rows m) = length-map (threshold_rows m) (threshold_row_of m) in
    let sum : dot (combination (threshold_problem_of m) on).coefs u ≡ dot (whole ws) (map h rows) =
    combination-dot (threshold_problem_of m) on u ∙ entries-dot h rows on refl are
    ∙ ap (λ w. dot (whole w) (map h rows)) (ap (λ n. with_entries (replicate n 0) on) count ∙ sym is) in
    let most : dot (whole ws) (map g (threshold_rows m)) ≤ℤ dot (whole ws) (map h rows) =
    dot_le_right (whole ws) (map g (threshold_rows m)) (map h rows)
    (rows_at_least (threshold_row_of m) h g (IsThresholdTagOf m) (tag_flags m matrix j) (threshold_rows m) (All-threshold_rows m)) (whole_nonneg ws) in
    let parts = threshold_number-dot m (at_flag m (suc j)) (below_flag m (suc j)) no_flag ws in
    let of = parts_are_of m ws in
    let equal = no_flags-dot (numbers (equals_of (ranges m) ws)) (pairs m.size) in
    covered_from_flags m j (ats_of (ranges m) ws) (belows_of (ranges m) ws) of.0 of.1 (omega (arith, lin, sum, most, parts, equal, none))

-- without weight at category 0 all weights are from 1 on
from_one : (xs : List (ℕ × ℕ)) → AreNone (nat_le 1) xs → from 0 xs ≡ from 1 xs
from_one [] none = refl
from_one (x ∷ xs) none = step (nat_le 1 x.0) refl (from_one xs none.1)
  where
    all : nat_le 0 x.0 ≡ true
    all = le-leb 0 x.0 (omega arith)

    step : (b : Bool) → nat_le 1 x.0 ≡ b → from 0 xs ≡ from 1 xs → from 0 (x ∷ xs) ≡ from 1 (x ∷ xs)
    step true e rest = rw (all, e) (omega (arith, rest))
    step false e rest = rw (all, e) (omega (arith, rest, none.0 e))

pub ends_high : (hi : ℕ) → (nat_le 1 hi && nat_le hi 5) ≡ true → nat_le 1 hi ≡ true
ends_high hi h = grind (arith, common_steps)

-- so all are covered
pub covered_from_above : (ats belows : List (ℕ × ℕ)) → AreNone (nat_le 1) belows → ((j : ℕ) → from (suc j) belows ≤ from (suc (suc j)) ats)
    → AreCovered ats belows
covered_from_above ats belows none above zero =
    let first = above 0 in
    let same = from_one belows none in
    omega (arith, first, same, from_falls 1 ats)
covered_from_above ats belows none above (suc j) = above j

pub covered_all : (m : Judgements) → IsMatrix m → (on : List (ℕ × ℤ)) → AreRowMultipliers (length (threshold_problem_of m).rows) on → (ws : List ℕ) → ws
    ≡ threshold_weights m on
    → ((j : ℕ) → dot (combination (threshold_problem_of m) on).coefs (upper m.size (suc j)) ≤ℤ pos 0)
    → AreCovered (ats_of (ranges m) ws) (belows_of (ranges m) ws)
covered_all m matrix on are ws is none =
    covered_from_above (ats_of (ranges m) ws) (belows_of (ranges m) ws) (spread-none Below (nat_le 1) (λ r h. ends_high r.hi h) (ranges m)
    (after_spread Zero (ranges m) (after_spread At (ranges m) ws))) (λ j. covered_above m matrix on are ws is j (none j))

-- ---- both combinations

own_length : (m : Judgements) (on : List (ℕ × ℤ)) → length (own_numbers m on) ≡ length (problem_of m).rows
own_length m on =
    length-map (own_weights (ranges m) (threshold_weights m on)) (λ w. pos w) ∙ length-own_weights m (threshold_weights m on)
    ∙ sym (length-map (judged_rows m) (row_of m))

-- sums over the rows that entries name are sums over all rows
their_sum : (m : Judgements) (on : List (ℕ × ℤ)) (h : Row → ℤ) → h (record { coefs = []; bound = pos 0 }) ≡ pos 0
    → AreRowMultipliers (length (threshold_problem_of m).rows) on
    → dot (multipliers on) (map h (rows_on (threshold_problem_of m).rows on)) ≡ dot (whole (threshold_weights m on)) (map h (threshold_problem_of m).rows)
their_sum m on h none are =
    let rows : List Row = map (threshold_row_of m) (threshold_rows m) in
    entries-dot h rows on none are ∙ ap (λ n. dot (whole (with_entries (replicate n 0) on)) (map h rows)) (length-map (threshold_rows m) (threshold_row_of m))

-- the numbers of bounds
abbrev lo_of : Judgements → ℕ → ℕ → ℤ
lo_of m p q = pos (range_at m p q).lo

abbrev less_hi : Judgements → ℕ → ℕ → ℤ
less_hi m p q = neg_ℤ (pos (range_at m p q).hi)

abbrev pub no_order : ℕ → ℤ
no_order p = pos 0

own_bound : (m : Judgements) (tag : Tag) → IsTagAmong m.size tag → (row_of m tag).bound ≡ own_number (lo_of m) (less_hi m) no_flag no_order tag
own_bound m (Lower p q) among = refl
own_bound m (Zeroed p q) among = refl
own_bound m (Cross p q x y) among = omega (arith, lin)
own_bound m (Order p) among = refl

their_bound : (m : Judgements) (tag : ThresholdTag) → IsThresholdTagOf m tag → (threshold_row_of m tag).bound
    ≡ threshold_number (lo_of m) (less_hi m) no_flag tag
their_bound m (AtRow p q) of = refl
their_bound m (ZeroRow p q) of = refl
their_bound m (BelowRow p q) of = refl
their_bound m (Step k) of = refl

same_bound : (m : Judgements) (on : List (ℕ × ℤ)) → AreRowMultipliers (length (threshold_problem_of m).rows) on
    → AreCovered (ats_of (ranges m) (threshold_weights m on)) (belows_of (ranges m) (threshold_weights m on))
    → (combination (problem_of m) (entries_from 0 (own_numbers m on))).bound ≡ (combination (threshold_problem_of m) on).bound
same_bound m on are covered =
    let ws : List ℕ = threshold_weights m on in
    let h : Row → ℤ = λ r. r.bound in
    entries-bound (problem_of m) (own_numbers m on) (own_length m on)
    ∙ ap (dot (own_numbers m on)) (rows_are (row_of m) h (own_number (lo_of m) (less_hi m) no_flag no_order) (IsTagAmong m.size) (own_bound m) (judged_rows m)
    (All-judged_rows m))
    ∙ carried-dot m (lo_of m) (less_hi m) no_flag no_order ws covered
    ∙ sym (ap (dot (whole ws)) (rows_are (threshold_row_of m) h (threshold_number (lo_of m) (less_hi m) no_flag) (IsThresholdTagOf m) (their_bound m)
    (threshold_rows m) (All-threshold_rows m)))
    ∙ sym (their_sum m on h refl are)

-- the numbers of a gap
abbrev pub gap_of : Judgements → ℕ → ℕ → ℕ → ℤ
gap_of m j p q = get_or (gap_coefs m.size p q) j (pos 0)

abbrev pub less_gap : Judgements → ℕ → ℕ → ℕ → ℤ
less_gap m j p q = get_or (opposite (gap_coefs m.size p q)) j (pos 0)

abbrev pub order_gap : Judgements → ℕ → ℕ → ℤ
order_gap m j p = gap_of m j p (p + 1)

pub own_coef : (m : Judgements) (j : ℕ) (tag : Tag) → IsTagAmong m.size tag
    → get_or (row_of m tag).coefs j (pos 0) ≡ own_number (gap_of m j) (less_gap m j) (less_gap m j) (order_gap m j) tag
own_coef m j (Lower p q) among = refl
own_coef m j (Zeroed p q) among = refl
own_coef m j (Cross p q x y) among = get_or-add (gap_coefs m.size p q) (opposite (gap_coefs m.size x y)) j
own_coef m j (Order p) among = refl

their_coef : (m : Judgements) (j : ℕ) → j < m.size - 1 → (tag : ThresholdTag) → IsThresholdTagOf m tag
    → get_or (threshold_row_of m tag).coefs j (pos 0) ≡ threshold_number (gap_of m j) (less_gap m j) (less_gap m j) tag
their_coef m j l (AtRow p q) of =
    get_or-append (gap_coefs m.size p q) (threshold ((range_at m p q).lo - 1) (negsuc 0)) (pos 0) j (omega (arith, l, length-gap_coefs m.size p q of.0))
their_coef m j l (ZeroRow p q) of =
    get_or-append (opposite (gap_coefs m.size p q)) (threshold 0 (pos 0)) (pos 0) j
    (omega (arith, l, length-opposite (gap_coefs m.size p q), length-gap_coefs m.size p q of))
their_coef m j l (BelowRow p q) of =
    get_or-append (opposite (gap_coefs m.size p q)) (threshold (range_at m p q).hi (pos 1)) (pos 0) j
    (omega (arith, l, length-opposite (gap_coefs m.size p q), length-gap_coefs m.size p q of.0))
their_coef m j l (Step k) of =
    get_or-append (replicate (m.size - 1) (pos 0)) (threshold_step k) (pos 0) j (omega (arith, l, length-replicate (m.size - 1) (pos 0)))
    ∙ get_or-zeros (m.size - 1) j

same_coef : (m : Judgements) (on : List (ℕ × ℤ)) → AreRowMultipliers (length (threshold_problem_of m).rows) on
    → AreCovered (ats_of (ranges m) (threshold_weights m on)) (belows_of (ranges m) (threshold_weights m on)) → (j : ℕ) → j < m.size - 1
    → get_or (combination (problem_of m) (entries_from 0 (own_numbers m on))).coefs j (pos 0) ≡ get_or (combination (threshold_problem_of m) on).coefs j (pos 0)
same_coef m on are covered j l =
    let ws : List ℕ = threshold_weights m on in
    let h : Row → ℤ = λ r. get_or r.coefs j (pos 0) in
    entries-coef (problem_of m) (own_numbers m on) j (own_length m on)
    ∙ ap (dot (own_numbers m on)) (rows_are (row_of m) h (own_number (gap_of m j) (less_gap m j) (less_gap m j) (order_gap m j)) (IsTagAmong m.size)
    (own_coef m j) (judged_rows m) (All-judged_rows m))
    ∙ carried-dot m (gap_of m j) (less_gap m j) (less_gap m j) (order_gap m j) ws covered
    ∙ sym (ap (dot (whole ws)) (rows_are (threshold_row_of m) h (threshold_number (gap_of m j) (less_gap m j) (less_gap m j)) (IsThresholdTagOf m)
    (their_coef m j l) (threshold_rows m) (All-threshold_rows m)))
    ∙ sym (their_sum m on h refl are) ∙ sym (ap (dot (multipliers on)) (column_of-map j (rows_on (threshold_problem_of m).rows on)))
    ∙ sym (get_or-combination (threshold_problem_of m) on j)

-- ---- certificates

-- the entries that are carried are of the matrix's rows
own_entries : (m : Judgements) (on : List (ℕ × ℤ)) → AreRowMultipliers (length (problem_of m).rows) (entries_from 0 (own_numbers m on))
own_entries m on =
    let length_is = own_length m on in
    AreRowMultipliers-from (length (problem_of m).rows) (own_numbers m on) (omega (arith, length_is))
    (whole_nonneg (own_weights (ranges m) (threshold_weights m on)))

-- the thresholds cost nothing
no_cost : (m : Judgements) (d : ℤ) (j : ℕ) → dot (scale d (threshold_problem_of m).cost) (upper m.size (suc j)) ≡ pos 0
no_cost m d j =
    let ones : List ℤ = replicate (m.size - 1) (pos 1) in
    let cost : dot (ones ++ replicate 5 (pos 0)) (upper m.size (suc j)) ≡ pos 0 =
    parts-dot m.size ones (replicate 5 (pos 0)) (suc j) (length-replicate (m.size - 1) (pos 1)) ∙ dot_comm (replicate 5 (pos 0)) (flags (suc j))
    ∙ dot-zeros (flags (suc j)) 5 in
    dot-scale d (ones ++ replicate 5 (pos 0)) (upper m.size (suc j)) ∙ ap (λ z. d *ℤ z) cost ∙ *ℤ-zero d

pub upper_nonneg : (n j : ℕ) → AreNonNegative (upper n j)
upper_nonneg n j =
    All-append (λ x. pos 0 ≤ℤ x) (replicate (n - 1) (pos 0)) (flags j) (All-replicate (λ x. pos 0 ≤ℤ x) (n - 1) (pos 0) (≤ℤ_refl (pos 0)))
    (cons 1 (flag j 2 ∷ flag j 3 ∷ flag j 4 ∷ flag j 5 ∷ []) (cons 2 (flag j 3 ∷ flag j 4 ∷ flag j 5 ∷ []) (cons 3 (flag j 4 ∷ flag j 5 ∷ [])
    (cons 4 (flag j 5 ∷ []) (cons 5 [] (All-nil (λ x. pos 0 ≤ℤ x)))))))
  where
    step : (b : Bool) → pos 0 ≤ℤ cond b (pos 1) (pos 0)
    step true = omega (arith, lin)
    step false = ≤ℤ_refl (pos 0)

    cons : (k : ℕ) (xs : List ℤ) → AreNonNegative xs → AreNonNegative (flag j k ∷ xs)
    cons k xs h = All-cons (λ x. pos 0 ≤ℤ x) (flag j k) xs (step (nat_le j k)) h

-- the cost at a gap
own_cost : (m : Judgements) (j : ℕ) → j < m.size - 1 → get_or (threshold_problem_of m).cost j (pos 0) ≡ get_or (problem_of m).cost j (pos 0)
own_cost m j l = get_or-append (replicate (m.size - 1) (pos 1)) (replicate 5 (pos 0)) (pos 0) j (omega (arith, l, length-replicate (m.size - 1) (pos 1)))

span_covers : (m : Judgements) → IsMatrix m → (cert : Cert) (value : Fraction) → IsSpanCertificate (threshold_problem_of m) cert value
    → AreCovered (ats_of (ranges m) (threshold_weights m cert.on)) (belows_of (ranges m) (threshold_weights m cert.on))
span_covers m matrix cert value s =
    covered_all m matrix cert.on s.entries (threshold_weights m cert.on) refl (λ j.
    subst (λ z. dot (combination (threshold_problem_of m) cert.on).coefs (upper m.size (suc j)) ≤ℤ z) (no_cost m cert.den j)
    (dot_le (combination (threshold_problem_of m) cert.on).coefs (scale cert.den (threshold_problem_of m).cost) (upper m.size (suc j)) s.below_cost
    (upper_nonneg m.size (suc j))))

span_carried : (m : Judgements) → IsMatrix m → (cert : Cert) (value : Fraction) → IsSpanCertificate (threshold_problem_of m) cert value
    → IsSpanCertificate (problem_of m) (record { den = cert.den; on = entries_from 0 (own_numbers m cert.on) }) value
span_carried m matrix cert value s =
    let covered = span_covers m matrix cert value s in
    let on : List (ℕ × ℤ) = entries_from 0 (own_numbers m cert.on) in
    record {
      den_pos = s.den_pos;
      value_den_pos = s.value_den_pos;
      entries = own_entries m cert.on;
      below_cost = below_cost-from_places (problem_of m) (IsProblem-own m matrix) on (own_entries m cert.on).positions_below cert.den (λ j l.
          subst₂ (λ x y. x ≤ℤ (cert.den *ℤ y)) (sym (same_coef m cert.on s.entries covered j l)) (own_cost m j l)
          (below_cost-at (threshold_problem_of m) cert.on cert.den s.below_cost j));
      value_is = subst (λ b. SameFraction (record { num = b; den = cert.den }) value) (sym (same_bound m cert.on s.entries covered)) s.value_is;
    }

farkas_covers : (m : Judgements) → IsMatrix m → (cert : Cert) → IsFarkasCertificate (threshold_problem_of m) cert
    → AreCovered (ats_of (ranges m) (threshold_weights m cert.on)) (belows_of (ranges m) (threshold_weights m cert.on))
farkas_covers m matrix cert f =
    covered_all m matrix cert.on f.entries (threshold_weights m cert.on) refl (λ j.
    dot_le (combination (threshold_problem_of m) cert.on).coefs [] (upper m.size (suc j))
    (AreAtMost-nil (combination (threshold_problem_of m) cert.on).coefs f.none_above) (upper_nonneg m.size (suc j)))

farkas_carried : (m : Judgements) → IsMatrix m → (cert : Cert) → IsFarkasCertificate (threshold_problem_of m) cert
    → IsFarkasCertificate (problem_of m) (record { den = cert.den; on = entries_from 0 (own_numbers m cert.on) })
farkas_carried m matrix cert f =
    let covered = farkas_covers m matrix cert f in
    let on : List (ℕ × ℤ) = entries_from 0 (own_numbers m cert.on) in
    let theirs : List ℤ = (combination (threshold_problem_of m) cert.on).coefs in
    let none : AreAtMost (combination (problem_of m) on).coefs (scale (pos 0) (problem_of m).cost) =
    below_cost-from_places (problem_of m) (IsProblem-own m matrix) on (own_entries m cert.on).positions_below (pos 0) (λ j l.
    subst₂ (λ x y. x ≤ℤ y) (sym (same_coef m cert.on f.entries covered j l)) (sym (zero-*ℤ (get_or (problem_of m).cost j (pos 0))))
    (AreAtMost-at theirs [] (AreAtMost-nil theirs f.none_above) j)) in
    record {
      entries = own_entries m cert.on;
      none_above = none_above_zero (combination (problem_of m) on).coefs (problem_of m).cost none;
      bound_above = subst (λ b. pos 0 <ℤ b) (sym (same_bound m cert.on f.entries covered)) f.bound_above;
    }

-- the certificate with the carried weights, its parts written otherwise
pub carried : (m : Judgements) → IsMatrix m → (cert : Cert) (den : ℤ) (on : List (ℕ × ℤ)) → den ≡ cert.den → on ≡ entries_from 0 (own_numbers m cert.on)
    → IsCarried m cert (record { den = den; on = on })
carried m matrix cert den on same_den same_on =
    subst₂ (λ (d : ℤ) (o : List (ℕ × ℤ)). IsCarried m cert (record { den = d; on = o })) (sym same_den) (sym same_on) (record {
      den = refl;
      span = span_carried m matrix cert;
      farkas = farkas_carried m matrix cert;
    })

-- either kind of certificate has multipliers of rows
pub proves_entries : (m : Judgements) (cert : Cert) → ProvesThreshold m cert → AreRowMultipliers (length (threshold_rows m)) cert.on
proves_entries m cert (inl s) = subst (λ n. AreRowMultipliers n cert.on) (length-map (threshold_rows m) (threshold_row_of m)) s.1.entries
proves_entries m cert (inr f) = subst (λ n. AreRowMultipliers n cert.on) (length-map (threshold_rows m) (threshold_row_of m)) f.entries
