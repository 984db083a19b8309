-- What is worked from the least point of a closed problem's threshold form is the least difference over the closure.
use lib.IntN.{*ℤ-zero}
use Rattle.std.specs.Result.{IfOk}
use Rattle.std.proofs.Common.{◌≡◌, ◌⊎◌, inl, inr, Bool, true, false, ℕ, suc, ◌-◌, ◌<◌, ◌≤◌, ℤ, pos, ◌+ℤ◌, ◌-ℤ◌, ◌*ℤ◌, ◌≤ℤ◌, ◌<ℤ◌, List, [], ◌∷◌, ◌++◌, map, take, length, get_or, refl, sym, ap, subst, subst₂, ◌∙◌, Result, Ok, Err, nat_lt, if◌then◌else◌, arith}
use Rattle.std.proofs.lemmas.Bool.{cases_lt, lt-ltb, le-ltb}
use Rattle.std.proofs.lemmas.List.{length-take-le, take-take}
use Rattle.std.proofs.lemmas.List.Elements.{All-nil, All-cons, All-head, All-tail, All-take, All-get_or}
use Rattle.std.proofs.lemmas.Result.{IfOk-at_ok}
use Rattle.frac128.specs.Checked.{◌>>=◌, checked_difference}
use Rattle.frac128.specs.Problem.{ProblemData, IsFeasible, IsInfeasible, IsSpanCertificate}
use Rattle.frac128.specs.declared.problem.Cert.{Cert}
use Rattle.frac128.proofs.FormulaLemmas.{IfOk-bind, IsValued, checked_difference-value}
use Rattle.frac128.proofs.ProblemLaws.{span_bounds}
use Rattle.integers.specs.Fraction.{Fraction, IsFraction, AreFractions, FractionAtMost, SameFraction, IsWriting, over, fraction_of, fraction_difference}
use Rattle.integers.specs.Vector.{dot}
use Rattle.integers.proofs.FractionSums.{IsFraction-whole}
use Rattle.integers.proofs.Fractions.{SameFractions-length, length-over}
use Rattle.integers.proofs.Laws.{lin}
use Rattle.integers.proofs.Order.{cancel_eq, cancel_le, le_of_lt}
use Rattle.integers.proofs.Ring.{con, neg, ◌⊕◌, ◌⊖◌, ◌⊗◌, ◌≗◌, ◌≼◌, ◌✶◌, ◌⇐◌, ring2, combine7}
use Rattle.integers.proofs.Writings.{IsWriting-at, IsWriting-length}
use Rattle.judgement_matrix.specs.Matrix.{IsMatrix, IsPair}
use Rattle.judgement_matrix.specs.Scale.{value_at, difference}
use Rattle.judgement_matrix.specs.Values.{fraction_at}
use Rattle.lex_simplex.specs.Answer.{IsLeastAnswer}
use Rattle.lp_macbeth.specs.Closed.{AreApart, closed_cost, IsClosedScale}
use Rattle.lp_macbeth.specs.ClosedThreshold.{IsThresholdForm}
use Rattle.lp_macbeth.specs.Gaps.{scale_of, gaps_of}
use Rattle.lp_macbeth.proofs.ClosedCostLemmas.{closed_cost-above, closed_cost-below}
use Rattle.lp_macbeth.proofs.ClosedFormLemmas.{closed_thresholds_are}
use Rattle.lp_macbeth.proofs.ClosedLemmas.{closed_iff}
use Rattle.lp_macbeth.proofs.ClosedRowLemmas.{IsCost-closed}
use Rattle.lp_macbeth.proofs.GapLemmas.{length-scale_of}
use Rattle.lp_macbeth.proofs.ScaleLemmas.{scale_is}
use Rattle.model_core.specs.State.{CriterionState, IsCriterion}
use Rattle.open_dominance.specs.Gap.{HasClosureScale, references_of, IsClosureScaleOf, ahead, IsLeastDifference, checked_lowered, checked_scale, checked_least, checked_gap, gap_problem, gap_form, RunEnds, IsReadGap, IsGapFound}
use Rattle.open_dominance.specs.declared.gap.Gap.{Gap}
use Rattle.lex_simplex.specs.Turn.{IsRun}
use Rattle.lex_simplex.specs.declared.end.End.{End}
use Rattle.lex_simplex.specs.declared.end.End.TheVariants.{Optimal}
use Rattle.open_dominance.specs.Open.{lowered}
use Rattle.open_dominance.proofs.LineLemmas.{closure_of_closed, closed_of_closure, difference-lowered}
use Rattle.open_dominance.proofs.WeightLemmas.{all_but_last}
use Rattle.value_scale.specs.GapSums.{checked_values}
use Rattle.value_scale.specs.declared.fault.ScaleFault.{ScaleFault}
use Rattle.value_scale.specs.declared.fault.ScaleFault.TheVariants as fault
use Rattle.value_scale.proofs.AnchorLemmas.{difference_over}
use Rattle.value_scale.proofs.BasicLemmas.{IsWriting-take}
use Rattle.value_scale.proofs.GapLemmas.{IsWritten, values_written}

-- ---- points of the closed problem

pub form_is : (c : CriterionState) (a b : ℕ) → IsMatrix c.matrix → IsPair c.matrix.size c.good c.neutral → AreApart c.matrix.size a b
    → IsThresholdForm (gap_problem c a b) (gap_form c a b)
form_is c a b matrix refs apart =
    closed_thresholds_are c.matrix c.good c.neutral c.reach (closed_cost c.matrix.size a b) matrix refs
    (IsCost-closed c.matrix.size a b apart.apart apart.first apart.second).one_each

-- the gaps of a point, and the scale that they make
abbrev pub gaps_in : CriterionState → List ℤ → List ℤ
gaps_in c x = take (c.matrix.size - 1) x

abbrev room_in : CriterionState → List ℤ → ℤ
room_in c x = get_or x (c.matrix.size - 1) (pos 0)

parts : (c : CriterionState) (x : List ℤ) → 2 ≤ c.matrix.size → length x ≡ c.matrix.size → gaps_in c x ++ room_in c x ∷ [] ≡ x
parts c x two each = all_but_last (c.matrix.size - 1) x (omega (arith, each))

closed_scale : (c : CriterionState) (a b : ℕ) (x : List ℤ) (n : ℤ) → IsPair c.matrix.size c.good c.neutral → IsFeasible (gap_problem c a b) x n
    → IsClosedScale c.matrix c.good c.neutral c.reach (scale_of (gaps_in c x)) (room_in c x) n
closed_scale c a b x n refs h =
    (closed_iff c.matrix c.good c.neutral c.reach a b (gaps_in c x) (room_in c x) n (omega arith) refs).0
    (subst (λ z. IsFeasible (gap_problem c a b) z n) (sym (parts c x (omega arith) h.one_each)) h)

-- what the difference lacks to the cost, for each unit
abbrev pub added : ℕ → ℕ → ℕ → ℕ
added reach a b = if nat_lt a b then 0 else reach

-- a closed scale's point costs the difference, and what is added
cost_of_closed : (c : CriterionState) (a b : ℕ) (x : List ℤ) (r n : ℤ) → IsPair c.matrix.size c.good c.neutral → AreApart c.matrix.size a b
    → suc (length x) ≡ c.matrix.size → IsClosedScale c.matrix c.good c.neutral c.reach (scale_of x) r n
    → dot (closed_cost c.matrix.size a b) (x ++ r ∷ []) ≡ difference (scale_of x) a b +ℤ n *ℤ pos (added c.reach a b)
cost_of_closed c a b x r n refs apart each h = by_order (cases_lt a b)
  where
    by_order : (a < b) ⊎ (b ≤ a) → dot (closed_cost c.matrix.size a b) (x ++ r ∷ []) ≡ difference (scale_of x) a b +ℤ n *ℤ pos (added c.reach a b)
    by_order (inl l) =
        let cost = closed_cost-above c.matrix.size a b x r each (omega (arith, apart.first, apart.second, l)) in
        let none : pos (added c.reach a b) ≡ pos 0 = rw (lt-ltb a b l) refl in
        let nothing = ap (λ z. n *ℤ z) none ∙ *ℤ-zero n in
        omega (arith, lin, cost, nothing)
    by_order (inr g) =
        let differ = apart.apart in
        let cost = closed_cost-below c.matrix.size a b x r each (omega (arith, apart.first, apart.second, g, differ)) in
        let all : pos (added c.reach a b) ≡ pos c.reach = rw (le-ltb a b g) refl in
        let reach = ap (λ z. n *ℤ z) all in
        let reached = h.reached in
        omega (arith, lin, cost, reach, reached)

-- ---- what is worked

-- each value less one, as writings
lowered_written : (zero : Fraction) (fs : List Fraction) (z n : ℤ) (w : List ℤ) → IsFraction zero → SameFraction (record { num = z; den = n }) zero
    → AreFractions fs → IsWriting fs w n → IfOk (checked_lowered zero fs) (IsWritten (map (λ x. x -ℤ z) w) n)
unfolding checked_lowered
lowered_written zero [] z n [] pz is_z pf h = (All-nil IsFraction, record { den_pos = h.den_pos; same = tt })
lowered_written zero [] z n (x ∷ w) pz is_z pf h = absurd h.same
lowered_written zero (f ∷ fs) z n [] pz is_z pf h = absurd h.same
lowered_written zero (f ∷ fs) z n (x ∷ w) pz is_z pf h =
    let head = All-head IsFraction f fs pf in
    IfOk-bind (checked_difference f zero) (λ y. (checked_lowered zero fs) >>= (λ ys. Ok (y ∷ ys))) (IsValued (fraction_difference f zero))
    (IsWritten (map (λ x. x -ℤ z) (x ∷ w)) n) (checked_difference-value f zero head pz) (λ y hy.
    IfOk-bind (checked_lowered zero fs) (λ ys. Ok (y ∷ ys)) (IsWritten (map (λ x. x -ℤ z) w) n) (IsWritten (map (λ x. x -ℤ z) (x ∷ w)) n)
    (lowered_written zero fs z n w pz is_z (All-tail IsFraction f fs pf) (record { den_pos = h.den_pos; same = h.same.1 })) (λ ys hs. (
      All-cons IsFraction y ys hy.0 hs.0,
      record { den_pos = h.den_pos; same = (sym (difference_over x z n f zero y head pz h.same.0 is_z hy.1), hs.1.same) },
    )))

scale_written : (neutral : ℕ) (gaps : List Fraction) (x : List ℤ) (n : ℤ) → 1 ≤ neutral → neutral ≤ suc (length x) → AreFractions gaps → IsWriting gaps x n
    → IfOk (checked_scale neutral gaps) (IsWritten (lowered (scale_of x) neutral) n)
unfolding checked_scale
scale_written neutral gaps x n low within pg w =
    IfOk-bind (checked_values gaps) (λ values. checked_lowered (fraction_at values neutral) values) (IsWritten (scale_of x) n)
    (IsWritten (lowered (scale_of x) neutral) n) (values_written gaps x n pg w) (λ values h.
    let inside : neutral - 1 < length values = omega (arith, low, within, length-scale_of x, IsWriting-length values (scale_of x) n h.1) in
    lowered_written (fraction_at values neutral) values (value_at (scale_of x) neutral) n (scale_of x)
    (All-get_or IsFraction values (neutral - 1) (fraction_of (pos 0)) inside h.0)
    (IsWriting-at values (scale_of x) n (neutral - 1) (pos 0) (fraction_of (pos 0)) inside h.1) h.0 h.1)

-- the difference is the value less what was added
less_nothing : (value : Fraction) → SameFraction value (fraction_difference value (fraction_of (pos 0)))
less_nothing value = ring2 (λ a b. a ⊗ (b ⊗ con (pos 1)) ≗ (a ⊗ con (pos 1) ⊖ con (pos 0) ⊗ b) ⊗ b) refl value.num value.den

least_by_test : (t : Bool) (reach : ℕ) (value : Fraction) → IsFraction value
    → IfOk (if t then Ok value else checked_difference value (fraction_of (pos reach)))
    (IsValued (fraction_difference value (fraction_of (pos (if t then 0 else reach)))))
least_by_test true reach value pv = (pv, less_nothing value)
least_by_test false reach value pv = checked_difference-value value (fraction_of (pos reach)) pv (IsFraction-whole (pos reach))

-- ---- what is worked is least

-- the difference by the value, and the scale by the gaps
abbrev IsRead : CriterionState → ℕ → ℕ → Fraction → List ℤ → ℤ → Fraction × List Fraction → Type 0
IsRead c a b value w n gap = IsValued (fraction_difference value (fraction_of (pos (added c.reach a b)))) gap.0 × IsWritten (lowered w c.neutral) n gap.1

gap_read : (c : CriterionState) (a b : ℕ) (value : Fraction) (gaps : List Fraction) (x : List ℤ) (n : ℤ) → IsFraction value
    → 1 ≤ c.neutral → c.neutral ≤ suc (length x) → AreFractions gaps → IsWriting gaps x n
    → IfOk (checked_gap c a b value gaps) (IsRead c a b value (scale_of x) n)
unfolding checked_gap
gap_read c a b value gaps x n pv low within pg w =
    IfOk-bind (checked_least c.reach a b value) (λ least. (checked_scale c.neutral gaps) >>= (λ scale. Ok (least, scale)))
    (IsValued (fraction_difference value (fraction_of (pos (added c.reach a b))))) (IsRead c a b value (scale_of x) n)
    (least_by_test (nat_lt a b) c.reach value pv) (λ least hl.
    IfOk-bind (checked_scale c.neutral gaps) (λ scale. Ok (least, scale)) (IsWritten (lowered (scale_of x) c.neutral) n) (IsRead c a b value (scale_of x) n)
    (scale_written c.neutral gaps x n low within pg w) (λ scale hs. (hl, hs)))

-- the difference of a scale whose point costs the value
attained_by : (d n o a b p q : ℤ) → pos 0 <ℤ b → (d +ℤ n *ℤ o) *ℤ b ≡ a *ℤ n → p *ℤ (b *ℤ pos 1) ≡ (a *ℤ pos 1 -ℤ o *ℤ b) *ℤ q → d *ℤ q ≡ p *ℤ n
attained_by d n o a b p q pb cost less =
    cancel_eq (d *ℤ q) (p *ℤ n) b pb
    (combine7 (λ d n o a b p q. d ⊗ q ⊗ b ≗ p ⊗ n ⊗ b ⇐ q ✶ ((d ⊕ n ⊗ o) ⊗ b ≗ a ⊗ n) ∷ neg n ✶ (p ⊗ (b ⊗ con (pos 1)) ≗ (a ⊗ con (pos 1) ⊖ o ⊗ b) ⊗ q) ∷ []) refl
    d n o a b p q cost less)

-- and of one whose point costs at least that
bounded_by : (d k o a b p q : ℤ) → pos 0 <ℤ b → pos 0 <ℤ q → (a *ℤ k) ≤ℤ ((d +ℤ k *ℤ o) *ℤ b) → p *ℤ (b *ℤ pos 1) ≡ (a *ℤ pos 1 -ℤ o *ℤ b) *ℤ q
    → (p *ℤ k) ≤ℤ (d *ℤ q)
bounded_by d k o a b p q pb pq cost less =
    cancel_le (p *ℤ k) (d *ℤ q) b pb
    (combine7 (λ d k o a b p q. p ⊗ k ⊗ b ≼ d ⊗ q ⊗ b ⇐ q ✶ (a ⊗ k ≼ (d ⊕ k ⊗ o) ⊗ b) ∷ k ✶ (p ⊗ (b ⊗ con (pos 1)) ≗ (a ⊗ con (pos 1) ⊖ o ⊗ b) ⊗ q) ∷ []) refl
    d k o a b p q (le_of_lt (pos 0) q pq) cost less)

-- the point of a scale of the closure
record HasPoint (c : CriterionState) (a b : ℕ) (v : List ℤ) (k : ℤ) : Type 0 where
  pub x : List ℤ
  pub room : ℤ
  pub same : scale_of x ≡ lowered v c.matrix.size
  pub is : IsClosedScale c.matrix c.good c.neutral c.reach (scale_of x) room k
  pub met : IsFeasible (gap_problem c a b) (x ++ room ∷ []) k

point_of : (c : CriterionState) (a b : ℕ) (v : List ℤ) (k : ℤ) → IsPair c.matrix.size c.good c.neutral → IsClosureScaleOf c v k → HasPoint c a b v k
point_of c a b v k refs h =
    let there = closed_of_closure c.matrix (references_of c) v k refs h in
    let moved = lowered v c.matrix.size in
    let room = k *ℤ pos c.reach -ℤ difference v 1 c.matrix.size in
    let same = scale_is c.matrix moved k (omega (arith, refs)) there.scale in
    let at : IsClosedScale c.matrix c.good c.neutral c.reach (scale_of (gaps_of moved)) room k =
    subst (λ z. IsClosedScale c.matrix c.good c.neutral c.reach z room k) (sym same) there in
    record {
      x = gaps_of moved;
      room = room;
      same = same;
      is = at;
      met = (closed_iff c.matrix c.good c.neutral c.reach a b (gaps_of moved) room k (omega (arith, refs)) refs).1 at;
    }

-- so the form has a point
pub form_has_points : (c : CriterionState) (a b : ℕ) → IsMatrix c.matrix → IsPair c.matrix.size c.good c.neutral → AreApart c.matrix.size a b
    → HasClosureScale c → ¬ IsInfeasible (gap_form c a b)
form_has_points c a b matrix refs apart some none =
    let at = point_of c a b some.0 some.1.0 refs some.1.1 in
    (form_is c a b matrix refs apart).nothing.0 none (at.x ++ at.room ∷ []) some.1.0 at.met

pub least_difference : (c : CriterionState) (a b : ℕ) → IsMatrix c.matrix → IsPair c.matrix.size c.good c.neutral → AreApart c.matrix.size a b
    → (point : List Fraction) (value : Fraction) → AreFractions point → IsFraction value → IsLeastAnswer (gap_form c a b) point value
    → (cert : Cert) → IsSpanCertificate (gap_problem c a b) cert value
    → (least : Fraction) (scale : List Fraction) → checked_gap c a b value (take (c.matrix.size - 1) point) ≡ Ok (least, scale)
    → IsLeastDifference c a b least scale
least_difference c a b matrix refs apart point value pp pv answer cert proof least scale worked = record {
  at = lowered w c.neutral;
  over = n;
  written = read.1.1;
  among = closure_of_closed c.matrix (references_of c) w r n refs closed;
  attained = attained_by (difference (lowered w c.neutral) a b) n o value.num value.den least.num least.den pv costs read.0.1;
  none_below = below;
}
  where
    size : ℕ
    size = c.matrix.size

    x : List ℤ
    x = take size answer.is.x

    n : ℤ
    n = answer.is.n

    form : IsThresholdForm (gap_problem c a b) (gap_form c a b)
    form = form_is c a b matrix refs apart

    feasible : IsFeasible (gap_problem c a b) x n
    feasible = form.cut answer.is.x n answer.is.least.feasible

    gaps : List ℤ
    gaps = gaps_in c x

    w : List ℤ
    w = scale_of gaps

    r : ℤ
    r = room_in c x

    o : ℤ
    o = pos (added c.reach a b)

    closed : IsClosedScale c.matrix c.good c.neutral c.reach w r n
    closed = closed_scale c a b x n refs feasible

    each : suc (length gaps) ≡ size
    each = let long = length-take-le (size - 1) x (omega (arith, feasible.one_each)) in omega (arith, long, refs)

    each_value : length w ≡ size
    each_value = length-scale_of gaps ∙ each

    written : IsWriting (take (size - 1) point) gaps n
    written =
        subst (λ z. IsWriting (take (size - 1) point) z n) (sym (take-take (size - 1) size answer.is.x (omega arith)))
        (IsWriting-take (size - 1) point answer.is.x n (record { den_pos = answer.is.least.feasible.den_pos; same = answer.is.same }))

    read : IsRead c a b value w n (least, scale)
    read =
        IfOk-at_ok (IsRead c a b value w n) worked
        (gap_read c a b value (take (size - 1) point) gaps n pv (omega (arith, refs)) (omega (arith, refs, each)) (All-take IsFraction (size - 1) point pp) written)

    long : (v : List ℤ) → length v ≡ size → (e : ℕ) → difference (lowered v e) a b ≡ difference v a b
    long v same e = difference-lowered v e a b (omega (arith, apart.first, same)) (omega (arith, apart.second, same))

    costs : (difference (lowered w c.neutral) a b +ℤ n *ℤ o) *ℤ value.den ≡ value.num *ℤ n
    costs =
        let whole = parts c x (omega (arith, refs)) feasible.one_each in
        let here = cost_of_closed c a b gaps r n refs apart each closed in
        let moved = long w each_value c.neutral in
        ap (λ z. z *ℤ value.den) (ap (λ z. z +ℤ n *ℤ o) moved ∙ sym here ∙ ap (λ z. dot (closed_cost size a b) z) whole)
        ∙ subst (λ f. SameFraction f value) (form.value answer.is.x n answer.is.least.feasible) answer.cost

    below : (v : List ℤ) (k : ℤ) → IsClosureScaleOf c v k → FractionAtMost least (ahead v k a b)
    below v k h =
        let there = point_of c a b v k refs h in
        let as_many : suc (length there.x) ≡ size = sym (length-scale_of there.x) ∙ there.is.scale.each in
        let bound = span_bounds (gap_problem c a b) cert value proof (there.x ++ there.room ∷ []) k there.met in
        let cost = cost_of_closed c a b there.x there.room k refs apart as_many there.is in
        let total = cost ∙ ap (λ z. difference z a b +ℤ k *ℤ o) there.same ∙ ap (λ z. z +ℤ k *ℤ o) (long v h.within.each size) in
        bounded_by (difference v a b) k o value.num value.den least.num least.den pv read.0.0
        (subst (λ z. (value.num *ℤ k) ≤ℤ (z *ℤ value.den)) total bound) read.0.1

-- ---- what the functions of the code cite

pub references_fit : (c : CriterionState) → IsCriterion c → IsPair c.matrix.size c.good c.neutral
references_fit c k = let size = k.size in let within = k.neutral_is in (k.good_is, k.above, omega (arith, size, within))

-- the point has a number for each gap
pub gaps_are_there : (c : CriterionState) (a b : ℕ) (point : List Fraction) (value : Fraction) → IsLeastAnswer (gap_form c a b) point value
    → c.matrix.size - 1 ≤ length point
gaps_are_there c a b point value h =
    let long = SameFractions-length (over h.is.x h.is.n) point h.is.same in
    omega (arith, long, length-over h.is.x h.is.n, h.is.least.feasible.one_each)

-- what is read after a run that found a least point
pub found_by : (c : CriterionState) (a b : ℕ) (answer : Result Gap ScaleFault) → RunEnds (gap_form c a b) (Ok Optimal) → IsReadGap c a b answer → IsGapFound c a b answer
found_by c a b (Ok gap) run read = (run, read)
found_by c a b (Err fault.TooWide) run read = inr (run, read)
found_by c a b (Err fault.NoMemory) run read = tt

pub run_found : (p form : ProblemData) (end : End) (pivots : ℕ) → form ≡ p → end ≡ Optimal → IsRun form (Ok end) pivots → RunEnds p (Ok Optimal)
run_found p form end pivots same optimal run = (pivots, subst₂ (λ p e. IsRun p (Ok e) pivots) same optimal run)
