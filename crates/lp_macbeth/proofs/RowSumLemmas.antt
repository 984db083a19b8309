-- Sums over the rows of both problems, by pairs.
use lib.IntN.{+ℤ_idr}
use lib.ListN.{length-replicate}
use Rattle.std.specs.Prelude.{unsigned_abs}
use Rattle.std.specs.List.{filter}
use Rattle.std.specs.List.Sorted.{IsStrictlyIncreasing}
use Rattle.std.proofs.Common.{◌≡◌, ℕ, zero, suc, ◌+◌, ◌<◌, ◌≤◌, List, [], ◌∷◌, ◌++◌, All, map, length, get_or, set, replicate, ℤ, pos, ◌+ℤ◌, ◌-ℤ◌, ◌*ℤ◌, ◌≤ℤ◌, refl, sym, ap, ap₂, subst, ◌∙◌, arith, append_assoc}
use Rattle.std.proofs.lemmas.Int.{ints}
use Rattle.std.proofs.lemmas.List.{map-append, length-map, map-set, length-set, get_or-map, get_or-set_other}
use Rattle.std.proofs.lemmas.List.Elements.{All-head, All-tail}
use Rattle.frac128.specs.Problem.{AreRowMultipliers, multipliers, rows_on}
use Rattle.frac128.specs.declared.problem.Row.{Row}
use Rattle.integers.specs.Vector.{dot}
use Rattle.integers.proofs.Laws.{lin}
use Rattle.integers.proofs.Vector.{dot-set, dot_comm, dot-zeros}
use Rattle.judgement_matrix.specs.Range.{Bounds}
use Rattle.judgement_matrix.specs.Matrix.{Judgements, pairs, range_at}
use Rattle.lp_macbeth.specs.declared.threshold_tags.ThresholdTag.{ThresholdTag}
use Rattle.lp_macbeth.specs.declared.threshold_tags.ThresholdTag.TheVariants.{At as AtRow, Zero as ZeroRow, Below as BelowRow}
use Rattle.lp_macbeth.specs.declared.kinds.Kind.TheVariants.{At, Zero, Below}
use Rattle.lp_macbeth.specs.Threshold.{threshold_rows, step_rows}
use Rattle.lp_macbeth.specs.Passing.{with_entries, has_row, spread, after_spread, ranges}
use Rattle.lp_macbeth.proofs.WeightLemmas.{whole, numbers, spread-dot}

-- ---- entries put at their places

-- the positions from a place on rise, and there the weights are 0
put-dot : (us : List ℤ) (ws : List ℕ) (on : List (ℕ × ℤ)) → IsStrictlyIncreasing (map (λ (e : ℕ × ℤ). e.0) on)
    → All (λ (e : ℕ × ℤ). e.0 < length ws) on → All (λ (e : ℕ × ℤ). pos 0 ≤ℤ e.1) on
    → (start : ℕ) → ((j : ℕ) → start ≤ j → get_or ws j 0 ≡ 0) → (1 ≤ length on → start ≤ get_or (map (λ (e : ℕ × ℤ). e.0) on) 0 0)
    → dot (whole (with_entries ws on)) us ≡ dot (whole ws) us +ℤ dot (multipliers on) (map (λ (e : ℕ × ℤ). get_or us e.0 (pos 0)) on)
put-dot us ws [] rise below nonneg start clear first = sym (+ℤ_idr (dot (whole ws) us))
put-dot us ws (e ∷ on) rise below nonneg start clear first =
    let within : e.0 < length ws = All-head (λ (e : ℕ × ℤ). e.0 < length ws) e on below in
    let sign : pos 0 ≤ℤ e.1 = All-head (λ (e : ℕ × ℤ). pos 0 ≤ℤ e.1) e on nonneg in
    let value : pos (unsigned_abs e.1) ≡ e.1 = omega (arith, ints, sign) in
    let here : get_or ws e.0 0 ≡ 0 = clear e.0 (first (omega arith)) in
    let size : length (set ws e.0 (unsigned_abs e.1)) ≡ length ws = length-set ws e.0 (unsigned_abs e.1) in
    let after_that : (k : ℕ) → suc k + 1 ≡ suc (k + 1) = λ k. omega arith in
    let more = put-dot us (set ws e.0 (unsigned_abs e.1)) on
    (λ k l. subst (λ i. get_or (map (λ (f : ℕ × ℤ). f.0) (e ∷ on)) (suc k) 0 < get_or (map (λ (f : ℕ × ℤ). f.0) (e ∷ on)) i 0) (after_that k)
    (rise (suc k) (omega (arith, l))))
    (subst (λ n. All (λ (f : ℕ × ℤ). f.0 < n) on) (sym size) (All-tail (λ (e : ℕ × ℤ). e.0 < length ws) e on below))
    (All-tail (λ (e : ℕ × ℤ). pos 0 ≤ℤ e.1) e on nonneg) (suc e.0)
    (λ j l. get_or-set_other ws e.0 j (unsigned_abs e.1) 0 (λ s. absurd (omega (arith, l, s))) ∙ clear j (omega (arith, l, first (omega arith))))
    (λ l. omega (arith, rise 0 (omega (arith, l, length-map on (λ (f : ℕ × ℤ). f.0))))) in
    let old : get_or (whole ws) e.0 (pos 0) ≡ pos 0 = get_or-map (λ w. pos w) ws e.0 0 (pos 0) within ∙ ap (λ w. pos w) here in
    let changed : dot (whole (set ws e.0 (unsigned_abs e.1))) us ≡ dot (whole ws) us +ℤ e.1 *ℤ get_or us e.0 (pos 0) =
    ap (λ xs. dot xs us) (map-set (λ w. pos w) ws e.0 (unsigned_abs e.1))
    ∙ dot-set (whole ws) us e.0 (pos (unsigned_abs e.1)) (omega (arith, within, length-map ws (λ w. pos w)))
    ∙ ap₂ (λ a b. dot (whole ws) us +ℤ (a -ℤ b) *ℤ get_or us e.0 (pos 0)) value old
    ∙ ap (λ z. dot (whole ws) us +ℤ z *ℤ get_or us e.0 (pos 0)) (+ℤ_idr e.1) in
    omega (arith, lin, more, changed)

-- a function of rows at the positions, which is 0 past the last row
at_positions : (f : Row → ℤ) (rows : List Row) → f (record { coefs = []; bound = pos 0 }) ≡ pos 0 → (on : List (ℕ × ℤ))
    → All (λ (e : ℕ × ℤ). e.0 < length rows) on
    → map (λ (e : ℕ × ℤ). get_or (map f rows) e.0 (pos 0)) on ≡ map f (rows_on rows on)
at_positions f rows none [] below = refl
at_positions f rows none (e ∷ on) below =
    let default : Row = record { coefs = []; bound = pos 0 } in
    ap₂ (λ a b. a ∷ b) (get_or-map f rows e.0 default (pos 0) (All-head (λ (e : ℕ × ℤ). e.0 < length rows) e on below))
    (at_positions f rows none on (All-tail (λ (e : ℕ × ℤ). e.0 < length rows) e on below))

zeros_whole : (n : ℕ) → whole (replicate n 0) ≡ replicate n (pos 0)
zeros_whole zero = refl
zeros_whole (suc n) = ap (λ xs. pos 0 ∷ xs) (zeros_whole n)

-- entries sum up rows as the weights at all rows do
pub entries-dot : (f : Row → ℤ) (rows : List Row) (on : List (ℕ × ℤ)) → f (record { coefs = []; bound = pos 0 }) ≡ pos 0 → AreRowMultipliers (length rows) on
    → dot (multipliers on) (map f (rows_on rows on)) ≡ dot (whole (with_entries (replicate (length rows) 0) on)) (map f rows)
entries-dot f rows on none are =
    let count : ℕ = length rows in
    let none_yet : ℕ = 0 in
    let start : List ℕ = replicate count none_yet in
    let put = put-dot (map f rows) start on are.positions_rise
    (subst (λ n. All (λ (e : ℕ × ℤ). e.0 < n) on) (sym (length-replicate count none_yet)) are.positions_below) are.nonneg 0
    (λ j l. zero_at count j) (λ l. omega arith) in
    let nothing : dot (whole start) (map f rows) ≡ pos 0 =
    ap (λ xs. dot xs (map f rows)) (zeros_whole count) ∙ dot_comm (replicate count (pos 0)) (map f rows) ∙ dot-zeros (map f rows) count in
    let places = ap (dot (multipliers on)) (at_positions f rows none on are.positions_below) in
    omega (arith, lin, put, nothing, places)
  where
    zero_at : (n j : ℕ) → get_or {A = ℕ} (replicate n 0) j 0 ≡ 0
    zero_at zero j = refl
    zero_at (suc n) zero = refl
    zero_at (suc n) (suc j) = zero_at n j

-- ---- the threshold problem's rows

-- the parts of weights of the threshold problem's rows
abbrev pub ats_of : List Bounds → List ℕ → List (ℕ × ℕ)
ats_of rs ws = spread At rs ws

abbrev pub equals_of : List Bounds → List ℕ → List (ℕ × ℕ)
equals_of rs ws = spread Zero rs (after_spread At rs ws)

abbrev pub belows_of : List Bounds → List ℕ → List (ℕ × ℕ)
belows_of rs ws = spread Below rs (after_spread Zero rs (after_spread At rs ws))

abbrev pub steps_of : List Bounds → List ℕ → List ℕ
steps_of rs ws = after_spread Below rs (after_spread Zero rs (after_spread At rs ws))

pub threshold-dot : (m : Judgements) (g : ThresholdTag → ℤ) (ws : List ℕ)
    → dot (whole ws) (map g (threshold_rows m))
    ≡ dot (numbers (ats_of (ranges m) ws)) (map (λ pair. g (AtRow pair.0 pair.1)) (pairs m.size))
    +ℤ (dot (numbers (equals_of (ranges m) ws)) (map (λ pair. g (ZeroRow pair.0 pair.1)) (pairs m.size))
    +ℤ (dot (numbers (belows_of (ranges m) ws)) (map (λ pair. g (BelowRow pair.0 pair.1)) (pairs m.size))
    +ℤ dot (whole (steps_of (ranges m) ws)) (map g step_rows)))
threshold-dot m g ws =
    let ps : List (ℕ × ℕ) = pairs m.size in
    let range : ℕ × ℕ → Bounds = λ pair. range_at m pair.0 pair.1 in
    let at_tags : List ThresholdTag = map (λ (p : ℕ × ℕ). AtRow p.0 p.1) (filter (λ p. has_row At (range p)) ps) in
    let zero_tags : List ThresholdTag = map (λ (p : ℕ × ℕ). ZeroRow p.0 p.1) (filter (λ p. has_row Zero (range p)) ps) in
    let below_tags : List ThresholdTag = map (λ (p : ℕ × ℕ). BelowRow p.0 p.1) (filter (λ p. has_row Below (range p)) ps) in
    let after_at : List ℕ = after_spread At (ranges m) ws in
    let after_zero : List ℕ = after_spread Zero (ranges m) after_at in
    let apart : map g (threshold_rows m) ≡ map g at_tags ++ (map g zero_tags ++ (map g below_tags ++ map g step_rows)) =
    map-append g ((at_tags ++ zero_tags) ++ below_tags) step_rows
    ∙ ap (λ xs. xs ++ map g step_rows) (map-append g (at_tags ++ zero_tags) below_tags ∙ ap (λ xs. xs ++ map g below_tags) (map-append g at_tags zero_tags))
    ∙ append_assoc (map g at_tags ++ map g zero_tags) (map g below_tags) (map g step_rows)
    ∙ append_assoc (map g at_tags) (map g zero_tags) (map g below_tags ++ map g step_rows) in
    let first = spread-dot At range (λ (p : ℕ × ℕ). AtRow p.0 p.1) g ps ws (map g zero_tags ++ (map g below_tags ++ map g step_rows)) in
    let second = spread-dot Zero range (λ (p : ℕ × ℕ). ZeroRow p.0 p.1) g ps after_at (map g below_tags ++ map g step_rows) in
    let third = spread-dot Below range (λ (p : ℕ × ℕ). BelowRow p.0 p.1) g ps after_zero (map g step_rows) in
    ap (dot (whole ws)) apart ∙ first
    ∙ ap (λ z. dot (numbers (ats_of (ranges m) ws)) (map (λ pair. g (AtRow pair.0 pair.1)) ps) +ℤ z) (second
    ∙ ap (λ z. dot (numbers (equals_of (ranges m) ws)) (map (λ pair. g (ZeroRow pair.0 pair.1)) ps) +ℤ z) third)
