-- What a certificate shows of a closed problem's threshold form, its multipliers carried to the problem's own rows show of the problem.
use lib.IntN.{+ℤ_idl, zero-*ℤ}
use lib.ListN.{length-append}
use Rattle.std.specs.Prelude.{◌==◌, nat_le}
use Rattle.std.specs.List.{filter}
use Rattle.std.proofs.Common.{◌≡◌, ℕ, zero, suc, ◌+◌, ◌-◌, ◌<◌, ◌≤◌, List, [], ◌∷◌, ◌++◌, map, length, get_or, drop, ℤ, pos, ◌+ℤ◌, ◌*ℤ◌, refl, sym, ap, ap₂, ◌∙◌, arith, append_assoc, append-nil}
use Rattle.std.proofs.lemmas.List.{map-append, length-map}
use Rattle.std.proofs.Math.Seq.{drop-nil}
use Rattle.integers.proofs.Loops.{push_next}
use Rattle.integers.specs.Vector.{dot}
use Rattle.integers.proofs.Laws.{lin}
use Rattle.integers.proofs.Vector.{dot-append, dot-nil}
use Rattle.judgement_matrix.specs.Range.{Bounds}
use Rattle.judgement_matrix.specs.Matrix.{Judgements, pairs, range_at}
use Rattle.judgement_matrix.specs.Rows.{lower_rows, zero_rows, cross_rows}
use Rattle.judgement_matrix.specs.declared.tag.Tag.{Tag}
use Rattle.judgement_matrix.specs.declared.tag.Tag.TheVariants.{Lower, Zero as Zeroed, Cross}
use Rattle.lp_macbeth.specs.declared.threshold_tags.ThresholdTag.{ThresholdTag}
use Rattle.lp_macbeth.specs.declared.threshold_tags.ThresholdTag.TheVariants.{At as AtRow, Zero as ZeroRow, Below as BelowRow}
use Rattle.lp_macbeth.specs.declared.kinds.Kind.TheVariants.{High, Zero, Below}
use Rattle.lp_macbeth.specs.Closed.{closed_tags}
use Rattle.lp_macbeth.specs.Threshold.{step_rows}
use Rattle.lp_macbeth.specs.ClosedThreshold.{closed_threshold_rows}
use Rattle.lp_macbeth.specs.Passing.{has_row, spread, after_spread, lefts, takings, at_zero, ranges, first_weights, closed_weights}
use Rattle.lp_macbeth.proofs.ClosedThresholdLemmas.{starts_high}
use Rattle.lp_macbeth.proofs.OwnRows.{own_number, length-at_zero, length-takings}
use Rattle.lp_macbeth.proofs.PassLemmas.{rests, rests-none, AreCovered}
use Rattle.lp_macbeth.proofs.WeightLemmas.{whole, numbers, AreOf, AreNone, spread-dot, spread-of, spread-none, at_zero-dot, kept, none-dot}

-- ---- the parts of the weights of the form's rows

abbrev pub highs_of : List Bounds → List ℕ → List (ℕ × ℕ)
highs_of rs ws = spread High rs ws

abbrev pub closed_equals_of : List Bounds → List ℕ → List (ℕ × ℕ)
closed_equals_of rs ws = spread Zero rs (after_spread High rs ws)

abbrev pub closed_belows_of : List Bounds → List ℕ → List (ℕ × ℕ)
closed_belows_of rs ws = spread Below rs (after_spread Zero rs (after_spread High rs ws))

-- those of the steps and of the named rows
abbrev pub behind_of : List Bounds → List ℕ → List ℕ
behind_of rs ws = after_spread Below rs (after_spread Zero rs (after_spread High rs ws))

-- sums over the rows of pairs and thresholds, and more, by pairs
pub form-dot : (m : Judgements) (g : ThresholdTag → ℤ) (ws : List ℕ) (more : List ℤ)
    → dot (whole ws) (map g (closed_threshold_rows m) ++ more)
    ≡ dot (numbers (highs_of (ranges m) ws)) (map (λ pair. g (AtRow pair.0 pair.1)) (pairs m.size))
    +ℤ (dot (numbers (closed_equals_of (ranges m) ws)) (map (λ pair. g (ZeroRow pair.0 pair.1)) (pairs m.size))
    +ℤ (dot (numbers (closed_belows_of (ranges m) ws)) (map (λ pair. g (BelowRow pair.0 pair.1)) (pairs m.size))
    +ℤ dot (whole (behind_of (ranges m) ws)) (map g step_rows ++ more)))
form-dot m g ws more =
    let ps : List (ℕ × ℕ) = pairs m.size in
    let range : ℕ × ℕ → Bounds = λ pair. range_at m pair.0 pair.1 in
    let high_tags : List ThresholdTag = map (λ (p : ℕ × ℕ). AtRow p.0 p.1) (filter (λ p. has_row High (range p)) ps) in
    let zero_tags : List ThresholdTag = map (λ (p : ℕ × ℕ). ZeroRow p.0 p.1) (filter (λ p. has_row Zero (range p)) ps) in
    let below_tags : List ThresholdTag = map (λ (p : ℕ × ℕ). BelowRow p.0 p.1) (filter (λ p. has_row Below (range p)) ps) in
    let after_high : List ℕ = after_spread High (ranges m) ws in
    let after_zero : List ℕ = after_spread Zero (ranges m) after_high in
    let steps : List ℤ = map g step_rows in
    let apart : map g (closed_threshold_rows m) ++ more ≡ map g high_tags ++ (map g zero_tags ++ (map g below_tags ++ (steps ++ more))) =
    ap (λ xs. xs ++ more) (map-append g ((high_tags ++ zero_tags) ++ below_tags) step_rows
    ∙ ap (λ xs. xs ++ steps) (map-append g (high_tags ++ zero_tags) below_tags ∙ ap (λ xs. xs ++ map g below_tags) (map-append g high_tags zero_tags)))
    ∙ append_assoc ((map g high_tags ++ map g zero_tags) ++ map g below_tags) steps more
    ∙ append_assoc (map g high_tags ++ map g zero_tags) (map g below_tags) (steps ++ more)
    ∙ append_assoc (map g high_tags) (map g zero_tags) (map g below_tags ++ (steps ++ more)) in
    let first = spread-dot High range (λ (p : ℕ × ℕ). AtRow p.0 p.1) g ps ws (map g zero_tags ++ (map g below_tags ++ (steps ++ more))) in
    let second = spread-dot Zero range (λ (p : ℕ × ℕ). ZeroRow p.0 p.1) g ps after_high (map g below_tags ++ (steps ++ more)) in
    let third = spread-dot Below range (λ (p : ℕ × ℕ). BelowRow p.0 p.1) g ps after_zero (steps ++ more) in
    ap (dot (whole ws)) apart ∙ first
    ∙ ap (λ z. dot (numbers (highs_of (ranges m) ws)) (map (λ pair. g (AtRow pair.0 pair.1)) ps) +ℤ z) (second
    ∙ ap (λ z. dot (numbers (closed_equals_of (ranges m) ws)) (map (λ pair. g (ZeroRow pair.0 pair.1)) ps) +ℤ z) third)

-- ---- the first weights, and those behind them

dot-first : (ws : List ℕ) (us : List ℤ) → dot (whole ws) us ≡ dot (whole (first_weights (length us) ws)) us
dot-first ws [] = dot-nil (whole ws)
dot-first [] (u ∷ us) = let rest = dot-first [] us in omega (arith, lin, rest, zero-*ℤ u)
dot-first (w ∷ ws) (u ∷ us) = ap (λ z. pos w *ℤ u +ℤ z) (dot-first ws us)

dot-split : (ws : List ℕ) (us more : List ℤ) → dot (whole ws) (us ++ more) ≡ dot (whole ws) us +ℤ dot (whole (drop (length us) ws)) more
dot-split ws [] more = sym (ap (λ z. z +ℤ dot (whole ws) more) (dot-nil (whole ws)) ∙ +ℤ_idl (dot (whole ws) more))
dot-split [] (u ∷ us) more = refl
dot-split (w ∷ ws) (u ∷ us) more = let rest = dot-split ws us more in omega (arith, lin, rest)

pub length-first_weights : (n : ℕ) (ws : List ℕ) → length (first_weights n ws) ≡ n
length-first_weights zero ws = refl
length-first_weights (suc n) ws = ap suc (length-first_weights n (drop 1 ws))

-- the steps' weights and those of the named rows
pub behind-dot : (m : Judgements) (g : ThresholdTag → ℤ) (ws : List ℕ) (count : ℕ) (us : List ℤ) → length us ≡ count
    → dot (whole (behind_of (ranges m) ws)) (map g step_rows ++ us)
    ≡ dot (whole (behind_of (ranges m) ws)) (map g step_rows) +ℤ dot (whole (first_weights count (drop 4 (behind_of (ranges m) ws)))) us
behind-dot m g ws count us each =
    let behind : List ℕ = behind_of (ranges m) ws in
    dot-split behind (map g step_rows) us
    ∙ ap (λ z. dot (whole behind) (map g step_rows) +ℤ z)
    (dot-first (drop 4 behind) us ∙ ap (λ n. dot (whole (first_weights n (drop 4 behind))) us) each)

-- ---- the parts are of the pairs

pub closed_parts_are_of : (m : Judgements) (ws : List ℕ)
    → AreOf (λ pair. (range_at m pair.0 pair.1).lo) (pairs m.size) (highs_of (ranges m) ws)
    × (AreOf (λ pair. (range_at m pair.0 pair.1).hi) (pairs m.size) (closed_equals_of (ranges m) ws)
    × AreOf (λ pair. (range_at m pair.0 pair.1).hi) (pairs m.size) (closed_belows_of (ranges m) ws))
closed_parts_are_of m ws =
    let range : ℕ × ℕ → Bounds = λ pair. range_at m pair.0 pair.1 in (
      spread-of High range (pairs m.size) ws,
      (
        spread-of Zero range (pairs m.size) (after_spread High (ranges m) ws),
        spread-of Below range (pairs m.size) (after_spread Zero (ranges m) (after_spread High (ranges m) ws)),
      ),
    )

-- ---- the sums over the problem's own rows

length-zeros : (m : Judgements) (ws : List ℕ) → length (at_zero (closed_equals_of (ranges m) ws)) ≡ length (zero_rows m)
length-zeros m ws =
    length-at_zero (λ (pair : ℕ × ℕ). (range_at m pair.0 pair.1).hi) (pairs m.size) (closed_equals_of (ranges m) ws) (closed_parts_are_of m ws).1.0
    ∙ sym (length-map (filter (λ (pair : ℕ × ℕ). (range_at m pair.0 pair.1).hi == 0) (pairs m.size)) (λ (pair : ℕ × ℕ). Zeroed pair.0 pair.1))

length-taken : (m : Judgements) (ws : List ℕ) → length (takings (highs_of (ranges m) ws) (closed_belows_of (ranges m) ws)) ≡ length (cross_rows m)
length-taken m ws =
    length-takings (λ (pair : ℕ × ℕ). (range_at m pair.0 pair.1).lo) (λ (pair : ℕ × ℕ). (range_at m pair.0 pair.1).hi) (λ (l r : ℕ × ℕ). Cross l.0 l.1 r.0 r.1)
    (pairs m.size) (pairs m.size) (highs_of (ranges m) ws) (closed_belows_of (ranges m) ws) (closed_parts_are_of m ws).0 (closed_parts_are_of m ws).1.1

-- as many weights as rows
pub length-closed_weights : (m : Judgements) (count : ℕ) (ws : List ℕ) → length (closed_weights (ranges m) count ws) ≡ length (closed_tags m) + count
length-closed_weights m count ws =
    let zeros : List ℕ = at_zero (closed_equals_of (ranges m) ws) in
    let taken : List ℕ = takings (highs_of (ranges m) ws) (closed_belows_of (ranges m) ws) in
    let last : List ℕ = first_weights count (drop 4 (behind_of (ranges m) ws)) in
    omega (
      arith,
      length-append (zeros ++ taken) last,
      length-append zeros taken,
      length-append (zero_rows m) (cross_rows m),
      length-zeros m ws,
      length-taken m ws,
      length-first_weights count (drop 4 (behind_of (ranges m) ws)),
    )

-- what is left on the pairs that begin at a category
abbrev pub left_of : Judgements → List ℕ → List ℕ
left_of m ws = lefts (highs_of (ranges m) ws) (closed_belows_of (ranges m) ws)

-- with that, sums over the own rows are those over the form's
pub closed-dot : (m : Judgements) (a b z : ℕ → ℕ → ℤ) (o : ℕ → ℤ) (count : ℕ) (ws : List ℕ) (us : List ℤ) → length us ≡ count
    → AreCovered (highs_of (ranges m) ws) (closed_belows_of (ranges m) ws)
    → dot (whole (closed_weights (ranges m) count ws)) (map (own_number a b z o) (closed_tags m) ++ us)
    +ℤ dot (whole (left_of m ws)) (map (own_number a b z o) (lower_rows m))
    ≡ dot (numbers (highs_of (ranges m) ws)) (map (λ pair. a pair.0 pair.1) (pairs m.size))
    +ℤ (dot (numbers (closed_equals_of (ranges m) ws)) (map (λ pair. z pair.0 pair.1) (pairs m.size))
    +ℤ (dot (numbers (closed_belows_of (ranges m) ws)) (map (λ pair. b pair.0 pair.1) (pairs m.size))
    +ℤ dot (whole (first_weights count (drop 4 (behind_of (ranges m) ws)))) us))
closed-dot m a b z o count ws us each covered =
    let ps : List (ℕ × ℕ) = pairs m.size in
    let f : Tag → ℤ = own_number a b z o in
    let of = closed_parts_are_of m ws in
    let highs : List (ℕ × ℕ) = highs_of (ranges m) ws in
    let equals : List (ℕ × ℕ) = closed_equals_of (ranges m) ws in
    let belows : List (ℕ × ℕ) = closed_belows_of (ranges m) ws in
    let first : List ℕ = at_zero equals in
    let second : List ℕ = takings highs belows in
    let third : List ℕ = first_weights count (drop 4 (behind_of (ranges m) ws)) in
    let whole_apart : whole (closed_weights (ranges m) count ws) ≡ (whole first ++ whole second) ++ whole third =
    map-append (λ w. pos w) (first ++ second) third ∙ ap (λ xs. xs ++ whole third) (map-append (λ w. pos w) first second) in
    let rows_apart : map f (closed_tags m) ++ us ≡ (map f (zero_rows m) ++ map f (cross_rows m)) ++ us =
    ap (λ xs. xs ++ us) (map-append f (zero_rows m) (cross_rows m)) in
    let few : length (whole first) ≡ length (map f (zero_rows m)) = length-map first (λ w. pos w) ∙ length-zeros m ws ∙ sym (length-map (zero_rows m) f) in
    let many : length (whole second) ≡ length (map f (cross_rows m)) =
    length-map second (λ w. pos w) ∙ length-taken m ws ∙ sym (length-map (cross_rows m) f) in
    let both : length (whole first ++ whole second) ≡ length (map f (zero_rows m) ++ map f (cross_rows m)) =
    length-append (whole first) (whole second) ∙ ap₂ (λ x y. x + y) few many ∙ sym (length-append (map f (zero_rows m)) (map f (cross_rows m))) in
    let apart : dot (whole (closed_weights (ranges m) count ws)) (map f (closed_tags m) ++ us)
    ≡ (dot (whole first) (map f (zero_rows m)) +ℤ dot (whole second) (map f (cross_rows m))) +ℤ dot (whole third) us =
    ap₂ dot whole_apart rows_apart ∙ dot-append (whole first ++ whole second) (whole third) (map f (zero_rows m) ++ map f (cross_rows m)) us both
    ∙ ap (λ s. s +ℤ dot (whole third) us) (dot-append (whole first) (whole second) (map f (zero_rows m)) (map f (cross_rows m)) few) in
    let none_highs : AreNone (nat_le 1) highs = spread-none High (nat_le 1) (λ r h. starts_high r.lo h) (ranges m) ws in
    let none_equals : AreNone (λ c. c == 0) equals = spread-none Zero (λ c. c == 0) (λ r h. h) (ranges m) (after_spread High (ranges m) ws) in
    let zeros : dot (whole first) (map f (zero_rows m)) ≡ dot (numbers equals) (map (λ pair. z pair.0 pair.1) ps) =
    at_zero-dot (λ (pair : ℕ × ℕ). (range_at m pair.0 pair.1).hi) (λ (pair : ℕ × ℕ). Zeroed pair.0 pair.1) f ps equals of.1.0 none_equals in
    let same = kept (λ (pair : ℕ × ℕ). (range_at m pair.0 pair.1).lo) (λ (pair : ℕ × ℕ). (range_at m pair.0 pair.1).hi) (λ (pair : ℕ × ℕ). Lower pair.0 pair.1)
    (λ (l r : ℕ × ℕ). Cross l.0 l.1 r.0 r.1) f (λ pair. a pair.0 pair.1) (λ pair. b pair.0 pair.1) (λ l. refl) (λ l q. refl) ps ps highs belows of.0
    none_highs of.1.1 in
    let gone : dot (numbers (rests highs belows)) (map (λ pair. b pair.0 pair.1) ps)
    ≡ pos 0 = none-dot (rests highs belows) (map (λ pair. b pair.0 pair.1) ps) (rests-none highs belows covered) in
    omega (arith, lin, apart, zeros, same, gone)

-- ---- the loops that take weights from the front

-- one more is left out
drop_one_more : (n : ℕ) (ws : List ℕ) → drop (suc n) ws ≡ drop n (drop 1 ws)
drop_one_more n [] = sym (drop-nil n)
drop_one_more n (w ∷ ws) = refl

pub skip_next : (count i : ℕ) (ws rest all : List ℕ) → i < count → rest ≡ drop 1 ws → drop (count - i) ws ≡ all → drop (count - (i + 1)) rest ≡ all
skip_next count i ws rest all below left so_far =
    let more : count - i ≡ suc (count - (i + 1)) = omega arith in
    ap (drop (count - (i + 1))) left ∙ sym (drop_one_more (count - (i + 1)) ws) ∙ ap (λ n. drop n ws) (sym more) ∙ so_far

pub skip_done : (count i : ℕ) (ws all : List ℕ) → count ≤ i → drop (count - i) ws ≡ all → ws ≡ all
skip_done count i ws all past so_far =
    let none : count - i ≡ 0 = omega arith in
    ap (λ n. drop n ws) (sym none) ∙ so_far

-- one more is added
pub first_next : (count i w : ℕ) (ws rest done all now : List ℕ) → i < count → w ≡ get_or ws 0 0 → rest ≡ drop 1 ws
    → done ++ first_weights (count - i) ws ≡ all → now ≡ done ++ w ∷ [] → now ++ first_weights (count - (i + 1)) rest ≡ all
first_next count i w ws rest done all now below first left so_far made =
    let more : count - i ≡ suc (count - (i + 1)) = omega arith in
    push_next done all (first_weights (count - i) ws) (first_weights (count - (i + 1)) rest) now w so_far
    (ap (λ n. first_weights n ws) more ∙ ap₂ (λ x l. x ∷ first_weights (count - (i + 1)) l) (sym first) (sym left)) made

pub first_done : (count i : ℕ) (ws done all : List ℕ) → count ≤ i → done ++ first_weights (count - i) ws ≡ all → done ≡ all
first_done count i ws done all past so_far =
    let none : count - i ≡ 0 = omega arith in
    sym (append-nil done) ∙ ap (λ n. done ++ first_weights n ws) (sym none) ∙ so_far
