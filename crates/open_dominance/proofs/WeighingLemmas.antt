-- What is worked from the least point of a weighting's threshold form is the least weighted sum over the closure.
use Rattle.std.specs.Result.{IfOk}
use Rattle.std.proofs.Common.{◌≡◌, ◌≢◌, inr, ℕ, ◌-◌, ◌≤◌, ℤ, pos, ◌+ℤ◌, ◌*ℤ◌, ◌≤ℤ◌, ◌<ℤ◌, List, [], ◌∷◌, ◌++◌, take, length, refl, sym, ap, ap₂, subst, ◌∙◌, Result, Ok, Err, arith}
use Rattle.std.proofs.Math.Seq.{take-append_seam}
use Rattle.std.proofs.lemmas.List.{length-append}
use Rattle.std.proofs.lemmas.List.Elements.{All-take}
use Rattle.std.proofs.lemmas.Result.{IfOk-at_ok}
use Rattle.frac128.specs.Checked.{◌>>=◌, checked_sum, checked_quotient}
use Rattle.frac128.specs.Problem.{ProblemData, IsFeasible, IsInfeasible, IsSpanCertificate, cost_at}
use Rattle.frac128.specs.declared.problem.Cert.{Cert}
use Rattle.frac128.proofs.FormulaLemmas.{IfOk-bind, IsValued, checked_sum-value, checked_quotient-value}
use Rattle.frac128.proofs.ProblemLaws.{span_bounds}
use Rattle.integers.specs.Fraction.{Fraction, IsFraction, AreFractions, SameFraction, IsWriting, over, fraction_of, fraction_sum, fraction_quotient}
use Rattle.integers.specs.Vector.{dot, int_sum, AreNonNegative}
use Rattle.integers.proofs.FractionOrder.{FractionAtMost-same_left, FractionAtMost-same_right}
use Rattle.integers.proofs.Fractions.{SameFraction-refl, SameFraction-sym, SameFraction-trans, SameFractions-length, length-over}
use Rattle.integers.proofs.FractionSums.{fraction_sum-same, IsFraction-sum}
use Rattle.integers.proofs.Laws.{lin}
use Rattle.integers.proofs.Order.{mul_pos, le_of_lt}
use Rattle.integers.proofs.Ring.{con, ◌⊕◌, ◌⊗◌, ◌≗◌, ◌≼◌, ◌✶◌, ◌⇐◌, combine7}
use Rattle.integers.proofs.Writings.{IsWriting-length}
use Rattle.judgement_matrix.specs.Matrix.{Judgements, IsMatrix}
use Rattle.judgement_matrix.specs.Scale.{IsScale, IsMetInUnit}
use Rattle.lex_simplex.specs.Answer.{IsLeastAnswer}
use Rattle.lex_simplex.specs.declared.end.End.TheVariants.{Optimal}
use Rattle.lp_macbeth.specs.ClosedThreshold.{IsThresholdForm}
use Rattle.lp_macbeth.specs.ClosedWeighting.{IsClosedWeighting, weights_of, weighted_gap}
use Rattle.lp_macbeth.specs.Gaps.{gaps_of, scale_of}
use Rattle.lp_macbeth.specs.declared.weighting.ClosedWeighting.{ClosedWeighting}
use Rattle.lp_macbeth.proofs.ClosedFormLemmas.{weighting_thresholds_are}
use Rattle.lp_macbeth.proofs.WeightingLemmas.{IsWeighting, weighting_is, points_of, sum_of, weights_and_zero, weights_of-gaps_of, AreGapCosts, gap_costs_are}
use Rattle.open_dominance.specs.Gap.{RunEnds}
use Rattle.open_dominance.specs.Open.{IsClosureWeighting}
use Rattle.open_dominance.specs.Weighing.{HasClosureWeighting, weighted, IsLeastWeighting, IsWeightingOf, checked_minimum, weighting_form, IsReadMinimum, IsMinimumFound}
use Rattle.open_dominance.specs.declared.weighing.WeightingMinimum.{WeightingMinimum}
use Rattle.swing_weights.specs.Weights.{swings}
use Rattle.value_scale.specs.GapSums.{checked_values}
use Rattle.value_scale.specs.declared.fault.ScaleFault.{ScaleFault}
use Rattle.value_scale.specs.declared.fault.ScaleFault.TheVariants as fault
use Rattle.value_scale.proofs.BasicLemmas.{IsWriting-take}
use Rattle.value_scale.proofs.GapLemmas.{IsWritten, values_written}

-- ---- the closed problem that was worked

pub weighting_of : (m : Judgements) (order : List ℕ) (gaps : List Fraction) (closed : ClosedWeighting) → AreFractions gaps
    → IsWeightingOf m order gaps closed → IsWeighting m order gaps closed
weighting_of m order gaps closed pg h = IfOk-at_ok (IsWeighting m order gaps) h.made (weighting_is m order gaps h.some pg)

pub costs_of : (m : Judgements) (order : List ℕ) (gaps : List Fraction) (closed : ClosedWeighting) → AreFractions gaps
    → IsWeightingOf m order gaps closed → AreGapCosts (length gaps) closed.problem.cost
costs_of m order gaps closed pg h =
    let w = weighting_of m order gaps closed pg h in
    gap_costs_are order gaps closed.least closed.scale w.weighed.0 closed.problem.cost h.order_is w.weighed.1

pub weighting_form_is : (m : Judgements) (order : List ℕ) (gaps : List Fraction) (closed : ClosedWeighting) → IsMatrix m → AreFractions gaps
    → IsWeightingOf m order gaps closed → IsThresholdForm closed.problem (weighting_form m closed)
weighting_form_is m order gaps closed matrix pg h =
    let w = weighting_of m order gaps closed pg h in
    let each = h.each in
    let some = h.some in
    subst (λ p. IsThresholdForm p (weighting_form m closed)) (sym w.problem)
    (weighting_thresholds_are m closed.problem.cost matrix (omega (arith, each, some)) ((costs_of m order gaps closed pg h).each ∙ each))

two_at_least : (m : Judgements) (order : List ℕ) (gaps : List Fraction) (closed : ClosedWeighting) → IsWeightingOf m order gaps closed → 2 ≤ m.size
two_at_least m order gaps closed h = let each = h.each in let some = h.some in omega (arith, each, some)

-- the point of weights of the closure
point_of_weights : (m : Judgements) (order : List ℕ) (gaps : List Fraction) (closed : ClosedWeighting) (k : List ℤ) (n : ℤ) → AreFractions gaps
    → IsWeightingOf m order gaps closed → IsClosureWeighting m k n → IsFeasible closed.problem (gaps_of (k ++ pos 0 ∷ [])) n
point_of_weights m order gaps closed k n pg h c =
    (points_of m order gaps closed (gaps_of (k ++ pos 0 ∷ [])) n (two_at_least m order gaps closed h) (weighting_of m order gaps closed pg h)).1
    (record {
      scale = subst (λ z. IsScale m (z ++ pos 0 ∷ []) n) (sym (weights_of-gaps_of k)) c.weights.scale;
      nonneg = subst AreNonNegative (sym (weights_of-gaps_of k)) c.weights.nonneg;
      sum = ap int_sum (weights_of-gaps_of k) ∙ c.weights.sum;
      meets = subst (λ z. IsMetInUnit m (pos 0) (z ++ pos 0 ∷ [])) (sym (weights_of-gaps_of k)) c.closed;
    })

pub weighting_has_points : (m : Judgements) (order : List ℕ) (gaps : List Fraction) (closed : ClosedWeighting) → IsMatrix m → AreFractions gaps
    → IsWeightingOf m order gaps closed → HasClosureWeighting m → ¬ IsInfeasible (weighting_form m closed)
weighting_has_points m order gaps closed matrix pg h some none =
    (weighting_form_is m order gaps closed matrix pg h).nothing.0 none (gaps_of (some.0 ++ pos 0 ∷ [])) some.1.0
    (point_of_weights m order gaps closed some.0 some.1.0 pg h some.1.1)

-- ---- what is worked

-- the sum by a value, and the weights by gaps
abbrev IsRead : ClosedWeighting → Fraction → List ℤ → ℤ → Fraction × List Fraction → Type 0
IsRead closed value x n minimum = IsValued (weighted_gap closed value) minimum.0 × IsWriting minimum.1 (weights_of x) n

-- the values but the last are the weights
weights_written : (x : List ℤ) (n : ℤ) (values : List Fraction) → IsWritten (scale_of x) n values → IsWriting (swings values) (weights_of x) n
weights_written x n values h =
    let long = IsWriting-length values (scale_of x) n h.1 in
    let whole = ap length (weights_and_zero x) ∙ length-append (weights_of x) (pos 0 ∷ []) in
    let count : length values - 1 ≡ length (weights_of x) = omega (arith, long, whole) in
    subst (λ z. IsWriting (swings values) z n)
    (ap₂ (λ k z. take k z) count (weights_and_zero x) ∙ take-append_seam (weights_of x) (pos 0 ∷ []))
    (IsWriting-take (length values - 1) values (scale_of x) n h.1)

minimum_read : (closed : ClosedWeighting) (value : Fraction) (gaps : List Fraction) (x : List ℤ) (n : ℤ) → pos 0 <ℤ closed.scale → IsFraction closed.least
    → IsFraction value → AreFractions gaps → IsWriting gaps x n → IfOk (checked_minimum closed value gaps) (IsRead closed value x n)
unfolding checked_minimum
minimum_read closed value gaps x n pl pm pv pg w =
    let whole = fraction_of closed.scale in
    let share_value = fraction_quotient value whole in
    IfOk-bind (checked_quotient value whole) (λ share. (checked_sum share closed.least) >>= (λ least. (checked_values gaps) >>= (λ values. Ok (least, swings values))))
    (IsValued share_value) (IsRead closed value x n) (checked_quotient-value value whole pv (apart_from_zero closed.scale pl)) (λ share hs.
    IfOk-bind (checked_sum share closed.least) (λ least. (checked_values gaps) >>= (λ values. Ok (least, swings values)))
    (IsValued (fraction_sum share closed.least)) (IsRead closed value x n) (checked_sum-value share closed.least hs.0 pm) (λ least hl.
    IfOk-bind (checked_values gaps) (λ values. Ok (least, swings values)) (IsWritten (scale_of x) n) (IsRead closed value x n)
    (values_written gaps x n pg w) (λ values hv. (
      (
        hl.0,
        SameFraction-trans least (fraction_sum share closed.least) (weighted_gap closed value) hl.0 (IsFraction-sum share closed.least hs.0 pm)
            (mul_pos (value.den *ℤ closed.scale) closed.least.den (mul_pos value.den closed.scale pv pl) pm) hl.1
            (fraction_sum-same share closed.least share_value closed.least hs.1 (SameFraction-refl closed.least)),
      ),
      weights_written x n values hv,
    ))))
  where
    apart_from_zero : (l : ℤ) → pos 0 <ℤ l → l ≢ pos 0
    apart_from_zero l above e = absurd (omega (arith, lin, above, e))

-- ---- what is worked is least

-- what a cost says of the numbers goes with the cost
same_gap : (a b c d l p q : ℤ) → a *ℤ d ≡ c *ℤ b → (a *ℤ pos 1 *ℤ q +ℤ p *ℤ (b *ℤ l)) *ℤ (d *ℤ l *ℤ q) ≡ (c *ℤ pos 1 *ℤ q +ℤ p *ℤ (d *ℤ l)) *ℤ (b *ℤ l *ℤ q)
same_gap = combine7 (λ a b c d l p q. (a ⊗ con (pos 1) ⊗ q ⊕ p ⊗ (b ⊗ l)) ⊗ (d ⊗ l ⊗ q) ≗ (c ⊗ con (pos 1) ⊗ q ⊕ p ⊗ (d ⊗ l)) ⊗ (b ⊗ l ⊗ q)
    ⇐ (q ⊗ q ⊗ l) ✶ (a ⊗ d ≗ c ⊗ b) ∷ []) refl

more_gap : (a b c d l p q : ℤ) → pos 0 ≤ℤ (q *ℤ q *ℤ l) → (a *ℤ d) ≤ℤ (c *ℤ b)
    → ((a *ℤ pos 1 *ℤ q +ℤ p *ℤ (b *ℤ l)) *ℤ (d *ℤ l *ℤ q)) ≤ℤ ((c *ℤ pos 1 *ℤ q +ℤ p *ℤ (d *ℤ l)) *ℤ (b *ℤ l *ℤ q))
more_gap = combine7 (λ a b c d l p q. (a ⊗ con (pos 1) ⊗ q ⊕ p ⊗ (b ⊗ l)) ⊗ (d ⊗ l ⊗ q) ≼ (c ⊗ con (pos 1) ⊗ q ⊕ p ⊗ (d ⊗ l)) ⊗ (b ⊗ l ⊗ q)
    ⇐ (q ⊗ q ⊗ l) ✶ (a ⊗ d ≼ c ⊗ b) ∷ []) refl

pub least_weighting : (m : Judgements) (order : List ℕ) (gaps : List Fraction) (closed : ClosedWeighting) → IsMatrix m → AreFractions gaps
    → IsFraction closed.least → IsWeightingOf m order gaps closed
    → (point : List Fraction) (value : Fraction) → AreFractions point → IsFraction value → IsLeastAnswer (weighting_form m closed) point value
    → (cert : Cert) → IsSpanCertificate closed.problem cert value
    → (least : Fraction) (weights : List Fraction) → checked_minimum closed value (take (m.size - 1) point) ≡ Ok (least, weights)
    → IsLeastWeighting m order gaps least weights
least_weighting m order gaps closed matrix pg pm h point value pp pv answer cert proof least weights worked = record {
  at = weights_of x;
  over = n;
  written = read.1;
  among = record { weights = record { scale = weighting.scale; nonneg = weighting.nonneg; sum = weighting.sum }; closed = weighting.meets };
  attained = λ g d o.
      SameFraction-trans (weighted (weights_of x) n g d) (weighted_gap closed (cost_at closed.problem x n)) least (mul_pos n d n_pos o.den_pos)
      (gap_pos (cost_at closed.problem x n) n_pos) read.0.0
      (SameFraction-sym (weighted_gap closed (cost_at closed.problem x n)) (weighted (weights_of x) n g d)
      (sum_of m order gaps closed x g n d h.each two pg h.order_is w feasible o))
      (SameFraction-trans (weighted_gap closed (cost_at closed.problem x n)) (weighted_gap closed value) least (gap_pos (cost_at closed.problem x n) n_pos)
      (gap_pos value pv) read.0.0 (same_gap (dot closed.problem.cost x) n value.num value.den closed.scale closed.least.num closed.least.den cost)
      (SameFraction-sym least (weighted_gap closed value) read.0.1));
  none_below = λ k j c g d o.
      let y = gaps_of (k ++ pos 0 ∷ []) in
      let met = point_of_weights m order gaps closed k j pg h c in
      let there = cost_at closed.problem y j in
      let bound = span_bounds closed.problem cert value proof y j met in
      let sum = subst (λ z. SameFraction (weighted_gap closed there) (weighted z j g d)) (weights_of-gaps_of k)
      (sum_of m order gaps closed y g j d h.each two pg h.order_is w met o) in
      FractionAtMost-same_left least (weighted_gap closed value) (weighted k j g d) read.0.0 (gap_pos value pv) (mul_pos j d met.den_pos o.den_pos) read.0.1
      (FractionAtMost-same_right (weighted_gap closed value) (weighted_gap closed there) (weighted k j g d) (gap_pos value pv) (gap_pos there met.den_pos)
      (mul_pos j d met.den_pos o.den_pos)
      (more_gap value.num value.den there.num there.den closed.scale closed.least.num closed.least.den
      (le_of_lt (pos 0) (closed.least.den *ℤ closed.least.den *ℤ closed.scale) (mul_pos (closed.least.den *ℤ closed.least.den) closed.scale
      (mul_pos closed.least.den closed.least.den pm pm) pl)) bound) sum);
}
  where
    w : IsWeighting m order gaps closed
    w = weighting_of m order gaps closed pg h

    pl : pos 0 <ℤ closed.scale
    pl = w.weighed.1.are.positive

    two : 2 ≤ m.size
    two = two_at_least m order gaps closed h

    form : IsThresholdForm closed.problem (weighting_form m closed)
    form = weighting_form_is m order gaps closed matrix pg h

    n : ℤ
    n = answer.is.n

    vars : closed.problem.vars ≡ m.size - 1
    vars = ap (λ (p : ProblemData). p.vars) w.problem

    x : List ℤ
    x = take (m.size - 1) answer.is.x

    feasible : IsFeasible closed.problem x n
    feasible = subst (λ k. IsFeasible closed.problem (take k answer.is.x) n) vars (form.cut answer.is.x n answer.is.least.feasible)

    n_pos : pos 0 <ℤ n
    n_pos = feasible.den_pos

    weighting : IsClosedWeighting m (weights_of x) n
    weighting = (points_of m order gaps closed x n two w).0 feasible

    gap_pos : (f : Fraction) → IsFraction f → IsFraction (weighted_gap closed f)
    gap_pos f pf = mul_pos (f.den *ℤ closed.scale) closed.least.den (mul_pos f.den closed.scale pf pl) pm

    read : IsRead closed value x n (least, weights)
    read =
        IfOk-at_ok (IsRead closed value x n) worked
        (minimum_read closed value (take (m.size - 1) point) x n pl pm pv (All-take IsFraction (m.size - 1) point pp)
        (IsWriting-take (m.size - 1) point answer.is.x n (record { den_pos = answer.is.least.feasible.den_pos; same = answer.is.same })))

    cost : SameFraction (cost_at closed.problem x n) value
    cost =
        subst (λ k. SameFraction (cost_at closed.problem (take k answer.is.x) n) value) vars
        (subst (λ f. SameFraction f value) (form.value answer.is.x n answer.is.least.feasible) answer.cost)

-- ---- what the functions of the code cite

-- the point has a number for each gap
pub weighting_gaps_are_there : (m : Judgements) (order : List ℕ) (gaps : List Fraction) (closed : ClosedWeighting) (point : List Fraction) (value : Fraction)
    → AreFractions gaps → IsWeightingOf m order gaps closed → IsLeastAnswer (weighting_form m closed) point value → m.size - 1 ≤ length point
weighting_gaps_are_there m order gaps closed point value pg h answer =
    let long = SameFractions-length (over answer.is.x answer.is.n) point answer.is.same in
    omega (arith, long, length-over answer.is.x answer.is.n, answer.is.least.feasible.one_each)

pub minimum_found_by : (m : Judgements) (order : List ℕ) (gaps : List Fraction) (closed : ClosedWeighting) (answer : Result WeightingMinimum ScaleFault)
    → RunEnds (weighting_form m closed) (Ok Optimal) → IsReadMinimum m order gaps closed answer → IsMinimumFound m order gaps closed answer
minimum_found_by m order gaps closed (Ok minimum) run read = (run, read)
minimum_found_by m order gaps closed (Err fault.TooWide) run read = inr (run, read)
minimum_found_by m order gaps closed (Err fault.NoMemory) run read = tt
