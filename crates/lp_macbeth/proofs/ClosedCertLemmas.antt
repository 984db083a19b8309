-- A certificate of a closed problem's threshold form, carried: it shows of the problem what it shows of the form.
use lib.IntN.{+ℤ_idl, *ℤ-zero}
use lib.ListN.{length-append, length-replicate, get_or-append}
use Rattle.std.specs.Prelude.{◌⊎◌, nat_le}
use Rattle.std.specs.Int.Signed.{≤ℤ_refl}
use Rattle.std.proofs.Common.{◌≡◌, inl, inr, ℕ, zero, suc, ◌+◌, ◌-◌, ◌<◌, ◌≤◌, List, [], ◌∷◌, ◌++◌, All, map, length, get_or, take, drop, replicate, ℤ, pos, ◌+ℤ◌, ◌*ℤ◌, ◌≤ℤ◌, ◌<ℤ◌, refl, sym, ap, ap₂, subst, subst₂, ◌∙◌, arith}
use Rattle.std.proofs.lemmas.Bool.{cases_lt}
use Rattle.std.proofs.lemmas.List.{length-map, map-append, take-append-drop, length-take, get_or_past}
use Rattle.std.proofs.lemmas.List.Elements.{All-nil, All-cons, All-head, All-tail, All-append, All-replicate, All-map, All-weaker}
use Rattle.frac128.specs.Entries.{entries_from}
use Rattle.frac128.specs.Problem.{ProblemData, IsRow, AreRowMultipliers, multipliers, rows_on, combination, IsSpanCertificate, IsFarkasCertificate}
use Rattle.frac128.specs.declared.problem.Cert.{Cert}
use Rattle.frac128.specs.declared.problem.Row.{Row}
use Rattle.frac128.proofs.Combination.{get_or-combination, column_of-map, below_cost-at}
use Rattle.frac128.proofs.EntriesLemmas.{AreRowMultipliers-from, entries-bound, entries-coef}
use Rattle.integers.specs.Fraction.{Fraction, SameFraction}
use Rattle.integers.specs.Vector.{dot, scale, AreNonNegative, AreAtMost}
use Rattle.integers.proofs.Laws.{lin}
use Rattle.integers.proofs.Lists.{All-parts}
use Rattle.integers.proofs.Order.{le_trans}
use Rattle.integers.proofs.Vector.{dot-append, dot-scale, dot_comm, dot-zeros}
use Rattle.integers.proofs.VectorLaws.{get_or-scale, length-scale}
use Rattle.integers.proofs.VectorOrder.{get_or_nonneg, dot_nonneg, dot_le, dot_le_right, AreAtMost-nil, AreAtMost-at, AreAtMost-from_at, none_above_zero}
use Rattle.integers.proofs.Zeros.{get_or-zeros}
use Rattle.judgement_matrix.specs.Matrix.{Judgements, IsMatrix, pairs}
use Rattle.judgement_matrix.specs.Rows.{IsTagAmong, lower_rows}
use Rattle.judgement_matrix.specs.declared.tag.Tag.{Tag}
use Rattle.judgement_matrix.specs.declared.tag.Tag.TheVariants.{Lower, Zero as Zeroed, Cross, Order}
use Rattle.lp_macbeth.specs.declared.threshold_tags.ThresholdTag.{ThresholdTag}
use Rattle.lp_macbeth.specs.declared.threshold_tags.ThresholdTag.TheVariants.{At as AtRow, Zero as ZeroRow, Below as BelowRow, Step}
use Rattle.lp_macbeth.specs.declared.kinds.Kind.TheVariants.{High, Zero, Below}
use Rattle.lp_macbeth.specs.Gaps.{gap_coefs, opposite}
use Rattle.lp_macbeth.specs.Rows.{row_of}
use Rattle.lp_macbeth.specs.Closed.{closed_tags, closed_row_of, anchored_rows, closed_problem_with}
use Rattle.lp_macbeth.specs.ClosedWeighting.{weighting_row_of, sum_rows, weighting_problem_of}
use Rattle.lp_macbeth.specs.Threshold.{step_rows, threshold_row_of, IsThresholdTagOf}
use Rattle.lp_macbeth.specs.ClosedThreshold.{closed_threshold_rows, closed_threshold_row_of, with_thresholds, threshold_form_of}
use Rattle.lp_macbeth.specs.Passing.{with_entries, after_spread, ranges, first_weights, closed_weights}
use Rattle.lp_macbeth.specs.ClosedTranslated.{Proves, Carries, carried_of, ProvesClosed, IsClosedCarried, ProvesWeighting, IsWeightingCarried}
use Rattle.lp_macbeth.proofs.CarryLemmas.{rows_are, rows_at_least, whole_nonneg, combination-dot, flags, upper, at_flag, below_flag, no_flag, tag_flags, no_flags-dot, ends_high, covered_from_flags, covered_from_above, gap_of, less_gap, order_gap, no_order, own_coef, upper_nonneg}
use Rattle.lp_macbeth.proofs.ClosedCarryLemmas.{highs_of, closed_equals_of, closed_belows_of, behind_of, form-dot, behind-dot, closed_parts_are_of, length-closed_weights, left_of, closed-dot}
use Rattle.lp_macbeth.proofs.ClosedThresholdLemmas.{IsClosedForm, All-closed_threshold_rows}
use Rattle.lp_macbeth.proofs.ClosedFormLemmas.{closed_problem_is_form, weighting_problem_is_form}
use Rattle.lp_macbeth.proofs.ClosedRowLemmas.{length-row_of}
use Rattle.lp_macbeth.proofs.CoefLemmas.{length-gap_coefs, length-opposite}
use Rattle.lp_macbeth.proofs.OwnRows.{own_number, threshold_number, dot-none}
use Rattle.lp_macbeth.proofs.PassLemmas.{from, AreCovered}
use Rattle.lp_macbeth.proofs.RowSumLemmas.{entries-dot}
use Rattle.lp_macbeth.proofs.ScaleLemmas.{gap_coefs_nonneg}
use Rattle.lp_macbeth.proofs.TagLemmas.{All-closed_tags}
use Rattle.lp_macbeth.proofs.ThresholdProblemLemmas.{row_fits}
use Rattle.lp_macbeth.proofs.WeightLemmas.{whole, numbers, spread-none}

-- ---- weights

-- a weight for each row of the form, of which so many are named
abbrev pub form_weights : Judgements → ℕ → List (ℕ × ℤ) → List ℕ
form_weights m count on = with_entries (replicate (length (closed_threshold_rows m) + count) 0) on

-- the weights of the problem's own rows that they make, as whole numbers
abbrev pub closed_numbers : Judgements → ℕ → List (ℕ × ℤ) → List ℤ
closed_numbers m count on = map (λ w. pos w) (closed_weights (ranges m) count (form_weights m count on))

-- as many rows
form_count : (m : Judgements) (further : ℕ) (cost : List ℤ) (named : List Row)
    → length (threshold_form_of m further cost named).rows ≡ length (closed_threshold_rows m) + length named
form_count m further cost named =
    let pairs : List Row = map (closed_threshold_row_of m further) (closed_threshold_rows m) in
    length-append pairs (map with_thresholds named)
    ∙ ap₂ (λ a b. a + b) (length-map (closed_threshold_rows m) (closed_threshold_row_of m further)) (length-map named with_thresholds)

-- sums over the rows that entries name are sums over all rows
their_sum : (m : Judgements) (further : ℕ) (cost : List ℤ) (named : List Row) (on : List (ℕ × ℤ)) (h : Row → ℤ)
    → h (record { coefs = []; bound = pos 0 }) ≡ pos 0 → AreRowMultipliers (length (threshold_form_of m further cost named).rows) on
    → dot (multipliers on) (map h (rows_on (threshold_form_of m further cost named).rows on))
    ≡ dot (whole (form_weights m (length named) on))
    (map h (map (closed_threshold_row_of m further) (closed_threshold_rows m)) ++ map h (map with_thresholds named))
their_sum m further cost named on h none are =
    let pairs : List Row = map (closed_threshold_row_of m further) (closed_threshold_rows m) in
    let rows : List Row = pairs ++ map with_thresholds named in
    entries-dot h rows on none are
    ∙ ap₂ (λ n us. dot (whole (with_entries (replicate n 0) on)) us) (form_count m further cost named) (map-append h pairs (map with_thresholds named))

-- ---- numbers of rows

-- zeros behind a list change no number of it
get_or-before_zeros : (xs : List ℤ) (n j : ℕ) → get_or (xs ++ replicate n (pos 0)) j (pos 0) ≡ get_or xs j (pos 0)
get_or-before_zeros [] n j = get_or-zeros n j
get_or-before_zeros (x ∷ xs) n zero = refl
get_or-before_zeros (x ∷ xs) n (suc j) = get_or-before_zeros xs n j

-- the front of two lists
take-front : (xs ys : List ℤ) (k : ℕ) → length xs ≡ k → take k (xs ++ ys) ≡ xs
take-front [] ys zero each = refl
take-front [] ys (suc k) each = absurd (omega (arith, each))
take-front (x ∷ xs) ys zero each = absurd (omega (arith, each))
take-front (x ∷ xs) ys (suc k) each = ap (λ l. x ∷ l) (take-front xs ys k (omega (arith, each)))

-- named rows keep a number that doesn't speak of thresholds
named_same : (h : Row → ℤ) → ((row : Row) → h (with_thresholds row) ≡ h row) → (named : List Row) → map h (map with_thresholds named) ≡ map h named
named_same h same [] = refl
named_same h same (row ∷ rows) = ap₂ (λ a b. a ∷ b) (same row) (named_same h same rows)

-- the numbers of Lower rows
lower-map : (a b z : ℕ → ℕ → ℤ) (o : ℕ → ℤ) (ps : List (ℕ × ℕ))
    → map (own_number a b z o) (map (λ (pair : ℕ × ℕ). Lower pair.0 pair.1) ps) ≡ map (λ (pair : ℕ × ℕ). a pair.0 pair.1) ps
lower-map a b z o [] = refl
lower-map a b z o (p ∷ ps) = ap (λ l. a p.0 p.1 ∷ l) (lower-map a b z o ps)

-- a row's number at a gap or a further variable
their_coef : (m : Judgements) (further j : ℕ) → j < m.size - 1 + further → IsMatrix m → (tag : ThresholdTag) → IsThresholdTagOf m tag
    → get_or (closed_threshold_row_of m further tag).coefs j (pos 0) ≡ threshold_number (gap_of m j) (less_gap m j) (less_gap m j) tag
their_coef m further j l matrix tag of =
    let k : ℕ = m.size - 1 in
    let c : List ℤ = (threshold_row_of m tag).coefs in
    let fits : IsRow (m.size - 1 + 5) (threshold_row_of m tag) = row_fits m matrix tag of in
    let zeros : List ℤ = replicate further (pos 0) in
    let long : length (take k c ++ zeros) ≡ k + further =
    omega (arith, length-append (take k c) zeros, length-replicate further (pos 0), length-take k c, fits.one_each) in
    get_or-append (take k c ++ zeros) (drop k c) (pos 0) j (omega (arith, l, long)) ∙ get_or-before_zeros (take k c) further j ∙ front tag of
  where
    front : (tag : ThresholdTag) → IsThresholdTagOf m tag
        → get_or (take (m.size - 1) (threshold_row_of m tag).coefs) j (pos 0) ≡ threshold_number (gap_of m j) (less_gap m j) (less_gap m j) tag
    front (AtRow p q) of = ap (λ l. get_or l j (pos 0)) (take-front (gap_coefs m.size p q) _ (m.size - 1) (length-gap_coefs m.size p q of.0))
    front (ZeroRow p q) of = ap (λ l. get_or l j (pos 0))
        (take-front (opposite (gap_coefs m.size p q)) _ (m.size - 1) (length-opposite (gap_coefs m.size p q) ∙ length-gap_coefs m.size p q of))
    front (BelowRow p q) of = ap (λ l. get_or l j (pos 0))
        (take-front (opposite (gap_coefs m.size p q)) _ (m.size - 1) (length-opposite (gap_coefs m.size p q) ∙ length-gap_coefs m.size p q of.0))
    front (Step n) of = ap (λ l. get_or l j (pos 0)) (take-front (replicate (m.size - 1) (pos 0)) _ (m.size - 1) (length-replicate (m.size - 1) (pos 0)))
        ∙ get_or-zeros (m.size - 1) j

-- ---- what thresholds show

-- 1 for the thresholds from one on
abbrev beyond : ℕ → ℕ → List ℤ
beyond v j = replicate v (pos 0) ++ flags j

beyond_nonneg : (v j : ℕ) → AreNonNegative (beyond v j)
beyond_nonneg v j =
    All-append (λ x. pos 0 ≤ℤ x) (replicate v (pos 0)) (flags j) (All-replicate (λ x. pos 0 ≤ℤ x) v (pos 0) (≤ℤ_refl (pos 0)))
    ((All-parts (λ x. pos 0 ≤ℤ x) (replicate (1 - 1) (pos 0)) (flags j)).0 (upper_nonneg 1 j)).1

-- a list of two parts with them
beyond-dot : (v j : ℕ) (xs ts : List ℤ) → length xs ≡ v → dot (xs ++ ts) (beyond v j) ≡ dot ts (flags j)
beyond-dot v j xs ts each =
    dot-append xs ts (replicate v (pos 0)) (flags j) (each ∙ sym (length-replicate v (pos 0)))
    ∙ ap (λ z. z +ℤ dot ts (flags j)) (dot-zeros xs v) ∙ +ℤ_idl (dot ts (flags j))

-- rows of pairs have the numbers that the open problem's have
flags_same : (m : Judgements) (further j : ℕ) (tag : ThresholdTag) → IsMatrix m → IsThresholdTagOf m tag
    → dot (closed_threshold_row_of m further tag).coefs (beyond (m.size - 1 + further) j) ≡ dot (threshold_row_of m tag).coefs (upper m.size j)
flags_same m further j tag matrix of =
    let k : ℕ = m.size - 1 in
    let c : List ℤ = (threshold_row_of m tag).coefs in
    let fits : IsRow (m.size - 1 + 5) (threshold_row_of m tag) = row_fits m matrix tag of in
    let zeros : List ℤ = replicate further (pos 0) in
    let front : length (take k c) ≡ k = length-take k c ∙ omega (arith, fits.one_each) in
    let long : length (take k c ++ zeros) ≡ k + further = omega (arith, length-append (take k c) zeros, length-replicate further (pos 0), front) in
    beyond-dot (k + further) j (take k c ++ zeros) (drop k c) long ∙ sym (beyond-dot k j (take k c) (drop k c) front)
    ∙ ap (λ l. dot l (upper m.size j)) (take-append-drop k c)

-- named rows have none
named_flags : (v j : ℕ) (row : Row) → length row.coefs ≡ v → dot (with_thresholds row).coefs (beyond v j) ≡ pos 0
named_flags v j row each = beyond-dot v j row.coefs (replicate 5 (pos 0)) each ∙ dot_comm (replicate 5 (pos 0)) (flags j) ∙ dot-zeros (flags j) 5

-- two lists, each at most another
at_most-append : (xs ys us vs : List ℤ) → length xs ≡ length ys → AreAtMost xs ys → AreAtMost us vs → AreAtMost (xs ++ us) (ys ++ vs)
at_most-append [] [] us vs each h k = k
at_most-append [] (y ∷ ys) us vs each h k = absurd (omega (arith, each))
at_most-append (x ∷ xs) [] us vs each h k = absurd (omega (arith, each))
at_most-append (x ∷ xs) (y ∷ ys) us vs each h k = (h.0, at_most-append xs ys us vs (omega (arith, each)) h.1 k)

-- where no threshold counts above 0, what ends from a category on is no more than what begins above it
covered_above : (m : Judgements) (further : ℕ) (cost : List ℤ) (named : List Row) → IsMatrix m
    → All (λ (row : Row). length row.coefs ≡ m.size - 1 + further) named → (on : List (ℕ × ℤ))
    → AreRowMultipliers (length (threshold_form_of m further cost named).rows) on → (j : ℕ)
    → dot (combination (threshold_form_of m further cost named) on).coefs (beyond (m.size - 1 + further) (suc j)) ≤ℤ pos 0
    → from (suc j) (closed_belows_of (ranges m) (form_weights m (length named) on))
    ≤ from (suc (suc j)) (highs_of (ranges m) (form_weights m (length named) on))
covered_above m further cost named matrix long on are j low =
    let v : ℕ = m.size - 1 + further in
    let u : List ℤ = beyond v (suc j) in
    let h : Row → ℤ = λ r. dot r.coefs u in
    let g : ThresholdTag → ℤ = threshold_number (at_flag m (suc j)) (below_flag m (suc j)) no_flag in
    let ws : List ℕ = form_weights m (length named) on in
    let tags : List ThresholdTag = closed_threshold_rows m in
    let R : ThresholdTag → Row = closed_threshold_row_of m further in
    let none : List ℤ = map (λ (row : Row). pos 0) named in
    let sum : dot (combination (threshold_form_of m further cost named) on).coefs u ≡ dot (whole ws) (map h (map R tags) ++ map h (map with_thresholds named)) =
    combination-dot (threshold_form_of m further cost named) on u ∙ their_sum m further cost named on h refl are in
    let first : AreAtMost (map g tags) (map h (map R tags)) =
    rows_at_least R h g (IsThresholdTagOf m)
    (λ tag of. subst (λ z. g tag ≤ℤ z) (sym (flags_same m further (suc j) tag matrix of)) (tag_flags m matrix j tag of)) tags
    (All-closed_threshold_rows m) in
    let second : AreAtMost none (map h (map with_thresholds named)) =
    rows_at_least with_thresholds h (λ (row : Row). pos 0) (λ (row : Row). length row.coefs ≡ v)
    (λ row each. subst (λ z. pos 0 ≤ℤ z) (sym (named_flags v (suc j) row each)) (≤ℤ_refl (pos 0))) named long in
    let same : length (map g tags) ≡ length (map h (map R tags)) = length-map tags g ∙ sym (length-map (map R tags) h ∙ length-map tags R) in
    let most : dot (whole ws) (map g tags ++ none) ≤ℤ dot (whole ws) (map h (map R tags) ++ map h (map with_thresholds named)) =
    dot_le_right (whole ws) (map g tags ++ none) (map h (map R tags) ++ map h (map with_thresholds named))
    (at_most-append (map g tags) (map h (map R tags)) none (map h (map with_thresholds named)) same first second) (whole_nonneg ws) in
    let parts = form-dot m g ws none in
    let behind = behind-dot m g ws (length named) none (length-map named (λ (row : Row). pos 0)) in
    let steps : dot (whole (behind_of (ranges m) ws)) (map g step_rows) ≡ pos 0 = dot-none (whole (behind_of (ranges m) ws)) step_rows in
    let rest : dot (whole (first_weights (length named) (drop 4 (behind_of (ranges m) ws)))) none ≡ pos 0 =
    dot-none (whole (first_weights (length named) (drop 4 (behind_of (ranges m) ws)))) named in
    let equal = no_flags-dot (numbers (closed_equals_of (ranges m) ws)) (pairs m.size) in
    let of = closed_parts_are_of m ws in
    covered_from_flags m j (highs_of (ranges m) ws) (closed_belows_of (ranges m) ws) of.0 of.1.1
    (omega (arith, lin, sum, most, parts, behind, steps, rest, equal, low))

covered_all : (m : Judgements) (further : ℕ) (cost : List ℤ) (named : List Row) → IsMatrix m
    → All (λ (row : Row). length row.coefs ≡ m.size - 1 + further) named → (on : List (ℕ × ℤ))
    → AreRowMultipliers (length (threshold_form_of m further cost named).rows) on
    → ((j : ℕ) → dot (combination (threshold_form_of m further cost named) on).coefs (beyond (m.size - 1 + further) (suc j)) ≤ℤ pos 0)
    → AreCovered (highs_of (ranges m) (form_weights m (length named) on)) (closed_belows_of (ranges m) (form_weights m (length named) on))
covered_all m further cost named matrix long on are low =
    let ws : List ℕ = form_weights m (length named) on in
    covered_from_above (highs_of (ranges m) ws) (closed_belows_of (ranges m) ws) (spread-none Below (nat_le 1) (λ r h. ends_high r.hi h) (ranges m)
    (after_spread Zero (ranges m) (after_spread High (ranges m) ws))) (λ j. covered_above m further cost named matrix long on are j (low j))

-- ---- the problem's own rows

-- rows of pairs whose numbers are those of the open problem's rows, with bound 0, and the named rows
pub record HasRows (m : Judgements) (named : List Row) (p : ProblemData) (R : Tag → Row) : Type 0 where
  pub rows : p.rows ≡ map R (closed_tags m) ++ named
  pub each : (tag : Tag) → IsTagAmong m.size tag → length (R tag).coefs ≡ p.vars
  pub coef : (tag : Tag) (j : ℕ) → get_or (R tag).coefs j (pos 0) ≡ get_or (row_of m tag).coefs j (pos 0)
  pub bound : (tag : Tag) → (R tag).bound ≡ pos 0

own_length : (m : Judgements) (named : List Row) (p : ProblemData) (R : Tag → Row) → HasRows m named p R → (on : List (ℕ × ℤ))
    → length (closed_numbers m (length named) on) ≡ length p.rows
own_length m named p R has on =
    length-map (closed_weights (ranges m) (length named) (form_weights m (length named) on)) (λ w. pos w)
    ∙ length-closed_weights m (length named) (form_weights m (length named) on)
    ∙ ap (λ n. n + length named) (sym (length-map (closed_tags m) R)) ∙ sym (length-append (map R (closed_tags m)) named) ∙ ap length (sym has.rows)

own_entries : (m : Judgements) (named : List Row) (p : ProblemData) (R : Tag → Row) → HasRows m named p R → (on : List (ℕ × ℤ))
    → AreRowMultipliers (length p.rows) (entries_from 0 (closed_numbers m (length named) on))
own_entries m named p R has on =
    let each = own_length m named p R has on in
    AreRowMultipliers-from (length p.rows) (closed_numbers m (length named) on) (omega (arith, each))
    (whole_nonneg (closed_weights (ranges m) (length named) (form_weights m (length named) on)))

-- numbers of own rows, and the form's
own_sum : (m : Judgements) (named : List Row) (p : ProblemData) (R : Tag → Row) → HasRows m named p R → (h : Row → ℤ) (f : Tag → ℤ)
    → ((tag : Tag) → IsTagAmong m.size tag → h (R tag) ≡ f tag) → (ns : List ℤ) → dot ns (map h p.rows) ≡ dot ns (map f (closed_tags m) ++ map h named)
own_sum m named p R has h f same ns =
    ap (λ rows. dot ns (map h rows)) has.rows ∙ ap (dot ns) (map-append h (map R (closed_tags m)) named)
    ∙ ap (λ us. dot ns (us ++ map h named)) (rows_are R h f (IsTagAmong m.size) same (closed_tags m) (All-closed_tags m))

form_sum : (m : Judgements) (further : ℕ) (cost : List ℤ) (named : List Row) (on : List (ℕ × ℤ)) (h : Row → ℤ) (g : ThresholdTag → ℤ)
    → h (record { coefs = []; bound = pos 0 }) ≡ pos 0 → ((row : Row) → h (with_thresholds row) ≡ h row)
    → ((tag : ThresholdTag) → IsThresholdTagOf m tag → h (closed_threshold_row_of m further tag) ≡ g tag)
    → AreRowMultipliers (length (threshold_form_of m further cost named).rows) on
    → dot (multipliers on) (map h (rows_on (threshold_form_of m further cost named).rows on))
    ≡ dot (whole (form_weights m (length named) on)) (map g (closed_threshold_rows m) ++ map h named)
form_sum m further cost named on h g none keeps same are =
    their_sum m further cost named on h none are
    ∙ ap₂ (λ us vs. dot (whole (form_weights m (length named) on)) (us ++ vs))
    (rows_are (closed_threshold_row_of m further) h g (IsThresholdTagOf m) same (closed_threshold_rows m) (All-closed_threshold_rows m))
    (named_same h keeps named)

-- where steps count nothing, the sum over own rows and what is left is that over the form's
both_sums : (m : Judgements) (a b z : ℕ → ℕ → ℤ) (o : ℕ → ℤ) (ws : List ℕ) (count : ℕ) (us : List ℤ) → length us ≡ count
    → AreCovered (highs_of (ranges m) ws) (closed_belows_of (ranges m) ws)
    → dot (whole (closed_weights (ranges m) count ws)) (map (own_number a b z o) (closed_tags m) ++ us)
    +ℤ dot (whole (left_of m ws)) (map (own_number a b z o) (lower_rows m))
    ≡ dot (whole ws) (map (threshold_number a b z) (closed_threshold_rows m) ++ us)
both_sums m a b z o ws count us each covered =
    let own = closed-dot m a b z o count ws us each covered in
    let theirs = form-dot m (threshold_number a b z) ws us in
    let behind = behind-dot m (threshold_number a b z) ws count us each in
    let steps : dot (whole (behind_of (ranges m) ws)) (map (threshold_number a b z) step_rows) ≡ pos 0 = dot-none (whole (behind_of (ranges m) ws)) step_rows in
    omega (arith, lin, own, theirs, behind, steps)

-- ---- both combinations

-- own numbers of 0 for each tag
no_bound : (m : Judgements) (named : List Row) (p : ProblemData) (R : Tag → Row) → HasRows m named p R → (tag : Tag)
    → (R tag).bound ≡ own_number no_flag no_flag no_flag no_order tag
no_bound m named p R has (Lower p' q) = has.bound (Lower p' q)
no_bound m named p R has (Zeroed p' q) = has.bound (Zeroed p' q)
no_bound m named p R has (Cross p' q x y) = has.bound (Cross p' q x y)
no_bound m named p R has (Order p') = has.bound (Order p')

no_threshold_bound : (m : Judgements) (further : ℕ) (tag : ThresholdTag)
    → (closed_threshold_row_of m further tag).bound ≡ threshold_number no_flag no_flag no_flag tag
no_threshold_bound m further (AtRow p q) = refl
no_threshold_bound m further (ZeroRow p q) = refl
no_threshold_bound m further (BelowRow p q) = refl
no_threshold_bound m further (Step k) = refl

same_bound : (m : Judgements) (further : ℕ) (named : List Row) (p : ProblemData) (R : Tag → Row) → HasRows m named p R → (on : List (ℕ × ℤ))
    → AreRowMultipliers (length (threshold_form_of m further p.cost named).rows) on
    → AreCovered (highs_of (ranges m) (form_weights m (length named) on)) (closed_belows_of (ranges m) (form_weights m (length named) on))
    → (combination p (entries_from 0 (closed_numbers m (length named) on))).bound ≡ (combination (threshold_form_of m further p.cost named) on).bound
same_bound m further named p R has on are covered =
    let ws : List ℕ = form_weights m (length named) on in
    let ns : List ℤ = closed_numbers m (length named) on in
    let h : Row → ℤ = λ r. r.bound in
    let f : Tag → ℤ = own_number no_flag no_flag no_flag no_order in
    let g : ThresholdTag → ℤ = threshold_number no_flag no_flag no_flag in
    let own : (combination p (entries_from 0 ns)).bound ≡ dot ns (map f (closed_tags m) ++ map h named) =
    entries-bound p ns (own_length m named p R has on) ∙ own_sum m named p R has h f (λ tag among. no_bound m named p R has tag) ns in
    let theirs : (combination (threshold_form_of m further p.cost named) on).bound ≡ dot (whole ws) (map g (closed_threshold_rows m) ++ map h named) =
    form_sum m further p.cost named on h g refl (λ row. refl) (λ tag of. no_threshold_bound m further tag) are in
    let both = both_sums m no_flag no_flag no_flag no_order ws (length named) (map h named) (length-map named h) covered in
    let none : dot (whole (left_of m ws)) (map f (lower_rows m)) ≡ pos 0 =
    ap (dot (whole (left_of m ws))) (lower-map no_flag no_flag no_flag no_order _) ∙ no_flags-dot (whole (left_of m ws)) _ in
    omega (arith, lin, own, theirs, both, none)

-- the gaps of pairs count nothing below 0
gaps_nonneg : (m : Judgements) (j : ℕ) (ps : List (ℕ × ℕ)) → AreNonNegative (map (λ (pair : ℕ × ℕ). gap_of m j pair.0 pair.1) ps)
gaps_nonneg m j [] = All-nil (λ x. pos 0 ≤ℤ x)
gaps_nonneg m j (pair ∷ ps) = All-cons (λ x. pos 0 ≤ℤ x) (gap_of m j pair.0 pair.1) (map (λ (pair : ℕ × ℕ). gap_of m j pair.0 pair.1) ps)
    (get_or_nonneg (gap_coefs m.size pair.0 pair.1) (gap_coefs_nonneg m.size pair.0 pair.1) j) (gaps_nonneg m j ps)

coef_at_most : (m : Judgements) (further : ℕ) (named : List Row) (p : ProblemData) (R : Tag → Row) → IsMatrix m → HasRows m named p R → (on : List (ℕ × ℤ))
    → AreRowMultipliers (length (threshold_form_of m further p.cost named).rows) on
    → AreCovered (highs_of (ranges m) (form_weights m (length named) on)) (closed_belows_of (ranges m) (form_weights m (length named) on))
    → (j : ℕ) → j < m.size - 1 + further
    → get_or (combination p (entries_from 0 (closed_numbers m (length named) on))).coefs j (pos 0)
    ≤ℤ get_or (combination (threshold_form_of m further p.cost named) on).coefs j (pos 0)
coef_at_most m further named p R matrix has on are covered j l =
    let q : ProblemData = threshold_form_of m further p.cost named in
    let ws : List ℕ = form_weights m (length named) on in
    let ns : List ℤ = closed_numbers m (length named) on in
    let h : Row → ℤ = λ r. get_or r.coefs j (pos 0) in
    let f : Tag → ℤ = own_number (gap_of m j) (less_gap m j) (less_gap m j) (order_gap m j) in
    let g : ThresholdTag → ℤ = threshold_number (gap_of m j) (less_gap m j) (less_gap m j) in
    let own : get_or (combination p (entries_from 0 ns)).coefs j (pos 0) ≡ dot ns (map f (closed_tags m) ++ map h named) =
    entries-coef p ns j (own_length m named p R has on)
    ∙ own_sum m named p R has h f (λ tag among. has.coef tag j ∙ own_coef m j tag among) ns in
    let theirs : get_or (combination q on).coefs j (pos 0) ≡ dot (whole ws) (map g (closed_threshold_rows m) ++ map h named) =
    get_or-combination q on j ∙ ap (dot (multipliers on)) (column_of-map j (rows_on q.rows on))
    ∙ form_sum m further p.cost named on h g refl (λ row. get_or-before_zeros row.coefs 5 j) (λ tag of. their_coef m further j l matrix tag of) are in
    let both = both_sums m (gap_of m j) (less_gap m j) (less_gap m j) (order_gap m j) ws (length named) (map h named) (length-map named h) covered in
    let left : pos 0 ≤ℤ dot (whole (left_of m ws)) (map f (lower_rows m)) =
    subst (λ us. pos 0 ≤ℤ dot (whole (left_of m ws)) us) (sym (lower-map (gap_of m j) (less_gap m j) (less_gap m j) (order_gap m j) _))
    (dot_nonneg (whole (left_of m ws)) _ (whole_nonneg (left_of m ws)) (gaps_nonneg m j _)) in
    omega (arith, lin, own, theirs, both, left)

-- past the variables there is nothing
none_past : (j v : ℕ) (rows : List Row) → v ≤ j → All (λ (row : Row). length row.coefs ≡ v) rows
    → map (λ (r : Row). get_or r.coefs j (pos 0)) rows ≡ map (λ (r : Row). pos 0) rows
none_past j v [] past each = refl
none_past j v (row ∷ rows) past each =
    let L : Row → Type 0 = λ row. length row.coefs ≡ v in
    ap₂ (λ a b. a ∷ b) (get_or_past row.coefs j (pos 0) (let one = All-head L row rows each in omega (arith, one, past)))
    (none_past j v rows past (All-tail L row rows each))

coef_past : (m : Judgements) (named : List Row) (p : ProblemData) (R : Tag → Row) → HasRows m named p R
    → All (λ (row : Row). length row.coefs ≡ p.vars) named → (on : List (ℕ × ℤ)) (j : ℕ) → p.vars ≤ j
    → get_or (combination p (entries_from 0 (closed_numbers m (length named) on))).coefs j (pos 0) ≡ pos 0
coef_past m named p R has long on j past =
    let L : Row → Type 0 = λ row. length row.coefs ≡ p.vars in
    let ns : List ℤ = closed_numbers m (length named) on in
    let all : All L p.rows = subst (All L) (sym has.rows) (All-append L (map R (closed_tags m)) named (All-map L R (closed_tags m)
    (All-weaker (IsTagAmong m.size) (λ tag. L (R tag)) has.each (closed_tags m) (All-closed_tags m))) long) in
    entries-coef p ns j (own_length m named p R has on) ∙ ap (dot ns) (none_past j p.vars p.rows past all) ∙ dot-none ns p.rows

-- ---- certificates

-- thresholds cost nothing
no_cost : (v : ℕ) (cost : List ℤ) (d : ℤ) (j : ℕ) → length cost ≡ v → dot (scale d (cost ++ replicate 5 (pos 0))) (beyond v j) ≡ pos 0
no_cost v cost d j each =
    dot-scale d (cost ++ replicate 5 (pos 0)) (beyond v j)
    ∙ ap (λ z. d *ℤ z) (beyond-dot v j cost (replicate 5 (pos 0)) each ∙ dot_comm (replicate 5 (pos 0)) (flags j) ∙ dot-zeros (flags j) 5) ∙ *ℤ-zero d

pub carries_is : (m : Judgements) (further : ℕ) (named : List Row) (p : ProblemData) (R : Tag → Row) → IsMatrix m → IsClosedForm m further named p
    → HasRows m named p R → (cert : Cert)
    → Carries (threshold_form_of m further p.cost named) p cert (record { den = cert.den; on = entries_from 0 (closed_numbers m (length named) cert.on) })
carries_is m further named p R matrix is has cert = record { den = refl; span = span; farkas = farkas }
  where
    q : ProblemData
    q = threshold_form_of m further p.cost named

    v : ℕ
    v = m.size - 1 + further

    on : List (ℕ × ℤ)
    on = entries_from 0 (closed_numbers m (length named) cert.on)

    long : All (λ (row : Row). length row.coefs ≡ v) named
    long = subst (λ n. All (λ (row : Row). length row.coefs ≡ n) named) is.vars is.named_each

    costs : length p.cost ≡ v
    costs = is.costs ∙ is.vars

    Covered : Type 0
    Covered = AreCovered (highs_of (ranges m) (form_weights m (length named) cert.on)) (closed_belows_of (ranges m) (form_weights m (length named) cert.on))

    span_covers : (value : Fraction) → IsSpanCertificate q cert value → Covered
    span_covers value s =
        covered_all m further p.cost named matrix long cert.on s.entries (λ j.
        subst (λ z. dot (combination q cert.on).coefs (beyond v (suc j)) ≤ℤ z) (no_cost v p.cost cert.den (suc j) costs)
        (dot_le (combination q cert.on).coefs (scale cert.den q.cost) (beyond v (suc j)) s.below_cost (beyond_nonneg v (suc j))))

    span_at : (value : Fraction) → IsSpanCertificate q cert value → Covered → (j : ℕ) → (j < v) ⊎ (v ≤ j)
        → get_or (combination p on).coefs j (pos 0) ≤ℤ get_or (scale cert.den p.cost) j (pos 0)
    span_at value s covered j (inl l) =
        let most = coef_at_most m further named p R matrix has cert.on s.entries covered j l in
        let theirs = below_cost-at q cert.on cert.den s.below_cost j in
        let same : get_or q.cost j (pos 0) ≡ get_or p.cost j (pos 0) = get_or-before_zeros p.cost 5 j in
        let scaled : get_or (scale cert.den p.cost) j (pos 0) ≡ cert.den *ℤ get_or p.cost j (pos 0) = get_or-scale cert.den p.cost j in
        le_trans (get_or (combination p on).coefs j (pos 0)) (get_or (combination q cert.on).coefs j (pos 0)) (get_or (scale cert.den p.cost) j (pos 0)) most
        (subst (λ z. get_or (combination q cert.on).coefs j (pos 0) ≤ℤ z) (ap (λ z. cert.den *ℤ z) same ∙ sym scaled) theirs)
    span_at value s covered j (inr g) =
        let none = coef_past m named p R has is.named_each cert.on j (omega (arith, g, is.vars)) in
        let free : get_or (scale cert.den p.cost) j (pos 0) ≡ pos 0 =
        get_or_past (scale cert.den p.cost) j (pos 0) (omega (arith, length-scale cert.den p.cost, costs, g)) in
        subst₂ (λ x y. x ≤ℤ y) (sym none) (sym free) (≤ℤ_refl (pos 0))

    span : (value : Fraction) → IsSpanCertificate q cert value → IsSpanCertificate p (record { den = cert.den; on = on }) value
    span value s =
        let covered = span_covers value s in
        record {
          den_pos = s.den_pos;
          value_den_pos = s.value_den_pos;
          entries = own_entries m named p R has cert.on;
          below_cost = AreAtMost-from_at (combination p on).coefs (scale cert.den p.cost) (λ j. span_at value s covered j (cases_lt j v));
          value_is = subst (λ b. SameFraction (record { num = b; den = cert.den }) value) (sym (same_bound m further named p R has cert.on s.entries covered))
              s.value_is;
        }

    farkas_covers : IsFarkasCertificate q cert → Covered
    farkas_covers f =
        covered_all m further p.cost named matrix long cert.on f.entries (λ j.
        dot_le (combination q cert.on).coefs [] (beyond v (suc j)) (AreAtMost-nil (combination q cert.on).coefs f.none_above) (beyond_nonneg v (suc j)))

    farkas_at : IsFarkasCertificate q cert → Covered → (j : ℕ) → (j < v) ⊎ (v ≤ j) → get_or (combination p on).coefs j (pos 0) ≤ℤ pos 0
    farkas_at f covered j (inl l) =
        le_trans (get_or (combination p on).coefs j (pos 0)) (get_or (combination q cert.on).coefs j (pos 0)) (pos 0)
        (coef_at_most m further named p R matrix has cert.on f.entries covered j l)
        (AreAtMost-at (combination q cert.on).coefs [] (AreAtMost-nil (combination q cert.on).coefs f.none_above) j)
    farkas_at f covered j (inr g) =
        let none = coef_past m named p R has is.named_each cert.on j (omega (arith, g, is.vars)) in
        subst (λ x. x ≤ℤ pos 0) (sym none) (≤ℤ_refl (pos 0))

    farkas : IsFarkasCertificate q cert → IsFarkasCertificate p (record { den = cert.den; on = on })
    farkas f =
        let covered = farkas_covers f in
        record {
          entries = own_entries m named p R has cert.on;
          none_above = none_above_zero (combination p on).coefs [] (AreAtMost-from_at (combination p on).coefs [] (λ j. farkas_at f covered j (cases_lt j v)));
          bound_above = subst (λ b. pos 0 <ℤ b) (sym (same_bound m further named p R has cert.on f.entries covered)) f.bound_above;
        }

-- the certificate that is carried, its parts written otherwise
pub carried_is : (m : Judgements) (count : ℕ) (cert : Cert) (den : ℤ) (on : List (ℕ × ℤ)) → den ≡ cert.den
    → on ≡ entries_from 0 (closed_numbers m count cert.on)
    → record { den = den; on = on } ≡ carried_of m count cert
carried_is m count cert den on same_den same_on = ap₂ (λ (d : ℤ) (o : List (ℕ × ℤ)). record { den = d; on = o }) same_den same_on

-- either kind of certificate has multipliers of rows
proves_entries : (m : Judgements) (further : ℕ) (cost : List ℤ) (named : List Row) (cert : Cert) → Proves (threshold_form_of m further cost named) cert
    → AreRowMultipliers (length (closed_threshold_rows m) + length named) cert.on
proves_entries m further cost named cert (inl s) = subst (λ n. AreRowMultipliers n cert.on) (form_count m further cost named) s.1.entries
proves_entries m further cost named cert (inr f) = subst (λ n. AreRowMultipliers n cert.on) (form_count m further cost named) f.entries

-- ---- of a criterion and of a weighting

pub closed_entries : (m : Judgements) (cert : Cert) → ProvesClosed m cert → AreRowMultipliers (length (closed_threshold_rows m) + 4) cert.on
closed_entries m cert (good, (neutral, (reach, (cost, proof)))) = proves_entries m 1 cost (anchored_rows m.size good neutral reach) cert proof

pub closed_carried : (m : Judgements) (cert : Cert) → IsMatrix m → IsClosedCarried m cert (carried_of m 4 cert)
closed_carried m cert matrix good neutral reach cost references each =
    let two : 2 ≤ m.size = omega (arith, references) in
    carries_is m 1 (anchored_rows m.size good neutral reach) (closed_problem_with m good neutral reach cost) (closed_row_of m) matrix
    (closed_problem_is_form m good neutral reach cost two references each) (record {
      rows = refl;
      each = λ tag among. length-append (row_of m tag).coefs (pos 0 ∷ []) ∙ omega (arith, length-row_of m tag among, two);
      coef = λ tag j. get_or-before_zeros (row_of m tag).coefs 1 j;
      bound = λ tag. refl;
    }) cert

pub weighting_entries : (m : Judgements) (cert : Cert) → ProvesWeighting m cert → AreRowMultipliers (length (closed_threshold_rows m) + 2) cert.on
weighting_entries m cert (cost, proof) = proves_entries m 0 cost (sum_rows (m.size - 1)) cert proof

pub weighting_carried : (m : Judgements) (cert : Cert) → IsMatrix m → 2 ≤ m.size → IsWeightingCarried m cert (carried_of m 2 cert)
weighting_carried m cert matrix two cost each =
    carries_is m 0 (sum_rows (m.size - 1)) (weighting_problem_of m cost) (weighting_row_of m) matrix (weighting_problem_is_form m cost two each) (record {
      rows = refl;
      each = λ tag among. length-row_of m tag among;
      coef = λ tag j. refl;
      bound = λ tag. refl;
    }) cert
