-- A Farkas certificate of the problem of a matrix refutes each scale that doesn't rise by a row that it names.
use lib.IntN.{*ℤ_comm, zero-*ℤ, *ℤ-zero}
use Rattle.std.proofs.Common.{◌≡◌, ◌⊎◌, inl, inr, ℕ, suc, ◌+◌, ◌-◌, ◌<◌, ◌≤◌, length, map, take, get_or, replicate, List, [], ◌∷◌, ℤ, pos, ◌+ℤ◌, ◌*ℤ◌, ◌≤ℤ◌, ◌<ℤ◌, refl, sym, ap, subst, ◌∙◌, arith}
use Rattle.std.specs.Prelude.{All}
use Rattle.std.specs.Int.Signed.{≤ℤ_refl}
use Rattle.std.proofs.lemmas.Option.{slice_get-get_or}
use Rattle.std.proofs.lemmas.List.{get_or_default, get_or-map, length-map, take_all}
use Rattle.std.proofs.lemmas.List.Elements.{All-head, All-tail}
use Rattle.integers.specs.Fraction.{Fraction, FractionAtMost}
use Rattle.integers.specs.Vector.{dot, int_sum, scale, add, weighted_sum, dot_each, AreNonNegative}
use Rattle.integers.proofs.Laws.{lin}
use Rattle.integers.proofs.Order.{lt_cases, mul_le, mul_pos, le_of_lt}
use Rattle.integers.proofs.Ring.{◌⊕◌, ◌⊗◌, ◌≗◌, ring4}
use Rattle.integers.proofs.Vector.{dot-weighted_sum}
use Rattle.integers.proofs.VectorOrder.{AreAtMost-trans, AreAtMost-add_zeros, AreAtMost-nil, dot_le}
use Rattle.frac128.specs.Problem.{IsRowMetBy, IsSpanCertificate, IsFarkasCertificate, row_at, multipliers}
use Rattle.frac128.specs.declared.problem.Cert.{Cert}
use Rattle.frac128.specs.declared.problem.Row.{Row}
use Rattle.frac128.proofs.ProblemLaws.{coefs_on, bounds_on, span_bounds, farkas_certificate_refutes}
use Rattle.judgement_matrix.specs.Matrix.{Judgements}
use Rattle.judgement_matrix.specs.Scale.{value_at, difference, IsScale, IsMetBy, IsInconsistent}
use Rattle.judgement_matrix.specs.Rows.{RowHolds}
use Rattle.judgement_matrix.specs.declared.tag.Tag.{Tag}
use Rattle.judgement_matrix.specs.declared.tag.Tag.TheVariants.{Order}
use Rattle.lp_macbeth.specs.Gaps.{gaps_of}
use Rattle.lp_macbeth.specs.Rows.{row_of, judged_rows, problem_of}
use Rattle.lp_macbeth.proofs.GapLemmas.{length-gaps_of, value_at-scale_of}
use Rattle.lp_macbeth.proofs.LeastLemmas.{cost_is_sum}
use Rattle.lp_macbeth.proofs.ScaleLemmas.{met_row, gap_is, scale_is, feasible_from_met, infeasible_iff_inconsistent}
use Rattle.lp_macbeth.proofs.TagLemmas.{All-judged_rows}
use Rattle.cert_check.specs.Entries.{entry_at}
use Rattle.cert_check.specs.Rows.{NeverRises, FailsNamedRow}

-- ---- any rows: either one with a multiplier above 0 is not met, or each is met as often as it counts

-- an entry of a row that is not met
record Unmet (rows : List Row) (x : List ℤ) (n : ℤ) (on : List (ℕ × ℤ)) : Type 0 where
  pub place : ℕ
  pub inside : place < length on
  pub positive : pos 0 <ℤ (entry_at on place).1
  pub unmet : ¬ IsRowMetBy x n (row_at rows (entry_at on place).0)

-- the bounds n times, weighed, are at most the products
abbrev AreMet : List Row → List ℤ → ℤ → List (ℕ × ℤ) → Type 0
AreMet rows x n on = (dot (multipliers on) (bounds_on rows on) *ℤ n) ≤ℤ dot (multipliers on) (dot_each (coefs_on rows on) x)

-- one more entry
met-cons : (rows : List Row) (x : List ℤ) (n : ℤ) (e : ℕ × ℤ) (on : List (ℕ × ℤ))
    → (((row_at rows e.0).bound *ℤ n) *ℤ e.1) ≤ℤ (dot (row_at rows e.0).coefs x *ℤ e.1) → AreMet rows x n on → AreMet rows x n (e ∷ on)
met-cons rows x n e on here rest =
    let b : ℤ = (row_at rows e.0).bound in
    let s : ℤ = dot (multipliers on) (bounds_on rows on) in
    let sum : (e.1 *ℤ b +ℤ s) *ℤ n ≡ (b *ℤ n) *ℤ e.1 +ℤ s *ℤ n = ring4 (λ y b s n. (y ⊗ b ⊕ s) ⊗ n ≗ (b ⊗ n) ⊗ y ⊕ s ⊗ n) refl e.1 b s n in
    let turned : e.1 *ℤ dot (row_at rows e.0).coefs x ≡ dot (row_at rows e.0).coefs x *ℤ e.1 = *ℤ_comm e.1 (dot (row_at rows e.0).coefs x) in
    omega (arith, lin, sum, turned)

-- an unmet entry among more
later : (rows : List Row) (x : List ℤ) (n : ℤ) (e : ℕ × ℤ) (on : List (ℕ × ℤ)) → Unmet rows x n on → Unmet rows x n (e ∷ on)
later rows x n e on u = record { place = suc u.place; inside = (let h = u.inside in omega arith); positive = u.positive; unmet = u.unmet }

-- all entries
scan : (rows : List Row) (x : List ℤ) (n : ℤ) (on : List (ℕ × ℤ)) → All (λ (e : ℕ × ℤ). pos 0 ≤ℤ e.1) on → Unmet rows x n on ⊎ AreMet rows x n on
scan rows x n [] nonneg = inr (subst (λ z. z ≤ℤ pos 0) (sym (zero-*ℤ n)) (omega (arith, lin)))
scan rows x n (e ∷ on) nonneg = step (lt_cases (pos 0) e.1) (lt_cases ((row_at rows e.0).bound *ℤ n) (dot (row_at rows e.0).coefs x))
    (scan rows x n on (All-tail (λ (e : ℕ × ℤ). pos 0 ≤ℤ e.1) e on nonneg))
  where
    bound : ℤ
    bound = (row_at rows e.0).bound *ℤ n

    product : ℤ
    product = dot (row_at rows e.0).coefs x

    least : pos 0 ≤ℤ e.1
    least = All-head (λ (e : ℕ × ℤ). pos 0 ≤ℤ e.1) e on nonneg

    met : bound ≤ℤ product → Unmet rows x n on ⊎ AreMet rows x n on → Unmet rows x n (e ∷ on) ⊎ AreMet rows x n (e ∷ on)
    met h (inl u) = inl (later rows x n e on u)
    met h (inr rest) = inr (met-cons rows x n e on (mul_le bound product e.1 least h) rest)

    step : (pos 0 <ℤ e.1 ⊎ (pos 0 ≡ e.1) ⊎ e.1 <ℤ pos 0) → (bound <ℤ product ⊎ (bound ≡ product) ⊎ product <ℤ bound) → Unmet rows x n on ⊎ AreMet rows x n on
        → Unmet rows x n (e ∷ on) ⊎ AreMet rows x n (e ∷ on)
    step sign (inl less) rest = met (le_of_lt bound product less) rest
    step sign (inr (inl same)) rest = met (subst (λ z. bound ≤ℤ z) same (≤ℤ_refl bound)) rest
    step (inl positive) (inr (inr more)) rest = inl (record { place = 0; inside = omega arith; positive = positive; unmet = λ h. omega (arith, lin, h) })
    step (inr (inl none)) (inr (inr more)) (inl u) = inl (later rows x n e on u)
    step (inr (inl none)) (inr (inr more)) (inr rest) =
        inr (met-cons rows x n e on (subst (λ y. (bound *ℤ y) ≤ℤ (product *ℤ y)) none (omega (arith, lin, *ℤ-zero bound, *ℤ-zero product))) rest)
    step (inr (inr below)) (inr (inr more)) rest = absurd (omega (arith, lin, least, below))

-- ---- a matrix

-- the gaps of a scale that doesn't rise are at least 0
gaps_nonneg : (m : Judgements) (w : List ℤ) (n : ℤ) → 2 ≤ m.size → IsScale m w n → NeverRises m w → AreNonNegative (gaps_of w)
gaps_nonneg m w n two scale falls k d below =
    let x : List ℤ = gaps_of w in
    let each : suc (length x) ≡ m.size = omega (arith, length-gaps_of w, scale.each) in
    let p : ℕ = m.size - 1 - k in
    let fall : pos 0 ≤ℤ difference w p (p + 1) = falls p (omega arith) (omega arith) in
    let is = gap_is m.size x k each below in
    subst (λ z. pos 0 ≤ℤ z) (get_or_default x k (pos 0) d below)
    (subst (λ z. pos 0 ≤ℤ z) is (subst (λ v. pos 0 ≤ℤ difference v p (p + 1)) (sym (scale_is m w n (omega arith) scale)) fall))

-- a Farkas certificate names a row that the scale fails
pub fails_named_row : (m : Judgements) (cert : Cert) → 2 ≤ m.size → IsFarkasCertificate (problem_of m) cert → (w : List ℤ) (n : ℤ) → IsScale m w n
    → NeverRises m w → FailsNamedRow m cert w n
fails_named_row m cert two h w n scale falls = step (scan (map (row_of m) (judged_rows m)) x n cert.on h.entries.nonneg)
  where
    x : List ℤ
    x = gaps_of w

    rows : List Row
    rows = map (row_of m) (judged_rows m)

    each : suc (length x) ≡ m.size
    each = omega (arith, length-gaps_of w, scale.each)

    step : Unmet rows x n cert.on ⊎ AreMet rows x n cert.on → FailsNamedRow m cert w n
    step (inl u) =
        let k : ℕ = (entry_at cert.on u.place).0 in
        let below : k < length rows = h.entries.positions_below u.place (0, pos 0) u.inside in
        let inside : k < length (judged_rows m) = subst (λ c. k < c) (length-map (judged_rows m) (row_of m)) below in
        let tag : Tag = get_or (judged_rows m) k (Order 0) in
        let row_is : row_at rows k ≡ row_of m tag = get_or-map (row_of m) (judged_rows m) k (Order 0) (record { coefs = []; bound = pos 0 }) inside in
        record {
          place = u.place;
          tag = tag;
          inside = u.inside;
          positive = u.positive;
          named = slice_get-get_or (judged_rows m) k (Order 0) inside;
          fails = λ holds. u.unmet (subst (IsRowMetBy x n) (sym row_is) ((met_row m x n tag each (All-judged_rows m k (Order 0) inside)).1
              (subst (λ v. RowHolds m v n tag) (sym (scale_is m w n (omega arith) scale)) holds)));
        }
    step (inr met) =
        let ys : List ℤ = multipliers cert.on in
        let sum : List ℤ = weighted_sum ys (coefs_on rows cert.on) in
        let below = AreAtMost-trans sum (add (replicate (m.size - 1) (pos 0)) sum) [] (AreAtMost-add_zeros (m.size - 1) sum)
        (AreAtMost-nil (add (replicate (m.size - 1) (pos 0)) sum) h.none_above) in
        let at_most : dot sum x ≤ℤ pos 0 = dot_le sum [] x below (gaps_nonneg m w n two scale falls) in
        let is = dot-weighted_sum ys (coefs_on rows cert.on) x in
        let positive = mul_pos (dot ys (bounds_on rows cert.on)) n h.bound_above scale.den_pos in
        absurd (omega (arith, lin, met, at_most, is, positive))

-- ---- what certificates say of scales

-- the cost of a scale's gaps is its first number
span_is : (m : Judgements) (w : List ℤ) (n : ℤ) → 2 ≤ m.size → IsScale m w n → dot (replicate (m.size - 1) (pos 1)) (gaps_of w) ≡ value_at w 1
span_is m w n two scale =
    let x : List ℤ = gaps_of w in
    let each : length x ≡ m.size - 1 = omega (arith, length-gaps_of w, scale.each) in
    let whole : suc (length x) - 1 ≡ length x = omega arith in
    cost_is_sum (m.size - 1) x each
    ∙ sym (value_at-scale_of x 1 (omega arith) (omega arith) ∙ ap (λ k. int_sum (take k x)) whole ∙ ap int_sum (take_all (length x) x (omega arith)))
    ∙ ap (λ v. value_at v 1) (scale_is m w n (omega arith) scale)

-- a span certificate bounds the first value of each scale that meets the matrix
pub span_bounds_scales : (m : Judgements) (cert : Cert) (value : Fraction) (w : List ℤ) (n : ℤ) → 2 ≤ m.size → IsSpanCertificate (problem_of m) cert value
    → IsMetBy m w n
    → FractionAtMost value (record { num = value_at w 1; den = n })
span_bounds_scales m cert value w n two h met =
    subst (λ z. FractionAtMost value (record { num = z; den = n })) (span_is m w n two met.scale)
    (span_bounds (problem_of m) cert value h (gaps_of w) n (feasible_from_met m w n two met))

-- with a Farkas certificate no scale meets the matrix
pub farkas_refutes_scales : (m : Judgements) (cert : Cert) → 2 ≤ m.size → IsFarkasCertificate (problem_of m) cert → IsInconsistent m
farkas_refutes_scales m cert two h = (infeasible_iff_inconsistent m two).0 (farkas_certificate_refutes (problem_of m) cert h)
