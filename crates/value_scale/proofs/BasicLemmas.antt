-- From the least point of the threshold problem to the least scale of the matrix and its span.
use Rattle.std.specs.Result.{IfOk}
use Rattle.std.proofs.Common.{◌≡◌, inl, ℕ, zero, suc, ◌+◌, ◌-◌, ◌≤◌, ◌<◌, ℤ, pos, ◌<ℤ◌, List, [], ◌∷◌, take, length, get_or, refl, ap, subst, subst₂, sym, ◌∙◌, All, Result, Ok, Err, arith}
use Rattle.std.proofs.lemmas.List.{take_all}
use Rattle.std.proofs.lemmas.List.Elements.{All-take, All-get_or, All-head}
use Rattle.std.proofs.lemmas.Result.{IfOk-weaker}
use Rattle.integers.specs.Fraction.{Fraction, IsFraction, AreFractions, SameFraction, SameFractions, IsWriting, over, fraction_of}
use Rattle.integers.specs.Vector.{dot, int_sum}
use Rattle.integers.proofs.Fractions.{SameFraction-sym, SameFraction-trans, SameFractions-refl, SameFractions-length, length-over}
use Rattle.std.specs.Int.Signed.{lt_z_yes}
use Rattle.integers.proofs.Writings.{IsWriting-same, IsWriting-at, IsWriting-length}
use Rattle.frac128.specs.Frac.{IsReduced}
use Rattle.frac128.specs.Problem.{ProblemData, IsLeast, cost_at, combination, IsSpanCertificate}
use Rattle.frac128.specs.declared.problem.Cert.{Cert}
use Rattle.judgement_matrix.specs.Matrix.{Judgements}
use Rattle.judgement_matrix.specs.Scale.{IsMetBy}
use Rattle.judgement_matrix.specs.Least.{IsSmaller, IsLeastScale}
use Rattle.lp_macbeth.specs.Gaps.{scale_of}
use Rattle.lp_macbeth.specs.Rows.{problem_of}
use Rattle.lp_macbeth.specs.Threshold.{threshold_problem_of}
use Rattle.lp_macbeth.proofs.GapLemmas.{dot-between, value_at-scale_of, length-scale_of}
use Rattle.lex_simplex.specs.Answer.{IsLeastAnswer}
use Rattle.lex_simplex.specs.Count.{capped_sum}
use Rattle.lex_simplex.specs.Run.{IsSolved}
use Rattle.lex_simplex.specs.declared.end.PivotFault.TheVariants as pivot
use Rattle.lex_simplex.specs.declared.solver.SolveFault.{SolveFault}
use Rattle.lex_simplex.specs.declared.solver.SolveFault.TheVariants as solve_fault
use Rattle.lex_simplex.proofs.Runs.Counts.{capped_sum-counted}
use Rattle.value_scale.specs.Basic.{AreLeastValues, span, IsLeastWithProof, AreGapSums, IsFoundBy}
use Rattle.value_scale.specs.GapSums.{checked_values}
use Rattle.value_scale.specs.declared.basic.Basic.{Basic}
use Rattle.value_scale.specs.declared.fault.ScaleFault.{ScaleFault}
use Rattle.value_scale.specs.declared.fault.ScaleFault.TheVariants as fault
use Rattle.value_scale.proofs.GapLemmas.{IsWritten, values_written}

-- ---- writings

-- the first of a list and of its writing
SameFractions-take : (k : ℕ) (fs gs : List Fraction) → SameFractions fs gs → SameFractions (take k fs) (take k gs)
SameFractions-take zero fs gs h = tt
SameFractions-take (suc k) [] [] h = tt
SameFractions-take (suc k) [] (g ∷ gs) h = absurd h
SameFractions-take (suc k) (f ∷ fs) [] h = absurd h
SameFractions-take (suc k) (f ∷ fs) (g ∷ gs) h = (h.0, SameFractions-take k fs gs h.1)

over-take : (k : ℕ) (w : List ℤ) (n : ℤ) → over (take k w) n ≡ take k (over w n)
over-take zero w n = refl
over-take (suc k) [] n = refl
over-take (suc k) (x ∷ w) n = ap (λ fs. record { num = x; den = n } ∷ fs) (over-take k w n)

pub IsWriting-take : (k : ℕ) (fs : List Fraction) (w : List ℤ) (n : ℤ) → IsWriting fs w n → IsWriting (take k fs) (take k w) n
IsWriting-take k fs w n h = record { den_pos = h.den_pos; same = rw (over-take k w n) (SameFractions-take k (over w n) fs h.same) }

-- ---- the least scale, in any writing

-- what holds of one writing of the least scale holds of each
pub least_in_each : (m : Judgements)
    → ((w v : List ℤ) (n k : ℤ) → pos 0 <ℤ k → SameFractions (over w n) (over v k) → IsMetBy m w n → IsMetBy m v k)
    → ((w v x y : List ℤ) (n k l j : ℤ) → pos 0 <ℤ n → pos 0 <ℤ k → pos 0 <ℤ l → pos 0 <ℤ j → SameFractions (over w n) (over v k) → SameFractions (over x l) (over y j) → IsSmaller w n x l → IsSmaller v k y j)
    → (values : List Fraction) (v : List ℤ) (k : ℤ) → AreFractions values → IsWriting values v k → IsLeastScale m v k → AreLeastValues m values
least_in_each m alike compare values v k ok written least w n h = record {
  is_met = alike v w k n h.den_pos (IsWriting-same values v k w n ok written h) least.is_met;
  none_smaller = λ y j met smaller. least.none_smaller y j met
      (compare y y w v j j n k met.scale.den_pos met.scale.den_pos h.den_pos written.den_pos (SameFractions-refl (over y j)) (IsWriting-same values w n v k ok h written) smaller);
}

-- ---- the span

-- the cost of a point of the threshold problem is the first value of its scale
pub cost_is_span : (m : Judgements) (z : List ℤ) → 2 ≤ m.size → length z ≡ m.size - 1 + 5 → dot (threshold_problem_of m).cost z ≡ get_or (scale_of (take (m.size - 1) z)) 0 (pos 0)
cost_is_span m z s l =
    let xs = take (m.size - 1) z in
    dot-between 0 (m.size - 1) 5 z
    ∙ sym (ap int_sum (take_all (suc (length xs) - 1) xs (omega arith)))
    ∙ sym (value_at-scale_of xs 1 (omega arith) (omega arith))

-- what was read from the least point of the threshold problem is the least scale, and its span is the cost
pub record IsRead (m : Judgements) (values : List Fraction) (cost : Fraction) : Type 0 where
  pub least : AreLeastValues m values
  pub span_is : SameFraction cost (span values)

-- the first value is the cost
first_is : (m : Judgements) (z : List ℤ) (n : ℤ) (cost : Fraction) (values : List Fraction) → 2 ≤ m.size → IsFraction cost
    → IsLeast (threshold_problem_of m) z n → SameFraction (cost_at (threshold_problem_of m) z n) cost → IsWritten (scale_of (take (m.size - 1) z)) n values → SameFraction cost (span values)
first_is m z n cost values s pc least cost_is h =
    let w = scale_of (take (m.size - 1) z) in
    let some : 0 < length values = omega (arith, IsWriting-length values w n h.1, length-scale_of (take (m.size - 1) z)) in
    let first : Fraction = record { num = get_or w 0 (pos 0); den = n } in
    let is_cost : SameFraction first cost = subst (λ c. SameFraction (record { num = c; den = n }) cost) (cost_is_span m z s least.feasible.one_each) cost_is in
    SameFraction-trans cost first (span values) pc h.1.den_pos (All-get_or IsFraction values 0 (fraction_of (pos 0)) some h.0)
    (SameFraction-sym first cost is_cost) (IsWriting-at values w n 0 (pos 0) (fraction_of (pos 0)) some h.1)

-- the values of the least point's gaps are the least scale, and the first of them is the cost
pub read : (m : Judgements)
    → ((w v : List ℤ) (n k : ℤ) → pos 0 <ℤ k → SameFractions (over w n) (over v k) → IsMetBy m w n → IsMetBy m v k)
    → ((w v x y : List ℤ) (n k l j : ℤ) → pos 0 <ℤ n → pos 0 <ℤ k → pos 0 <ℤ l → pos 0 <ℤ j → SameFractions (over w n) (over v k) → SameFractions (over x l) (over y j) → IsSmaller w n x l → IsSmaller v k y j)
    → ((z : List ℤ) (n : ℤ) → IsLeast (threshold_problem_of m) z n → IsLeastScale m (scale_of (take (m.size - 1) z)) n)
    → 2 ≤ m.size → (point : List Fraction) (z : List ℤ) (n : ℤ) (cost : Fraction) → AreFractions point → IsFraction cost → SameFractions (over z n) point
    → IsLeast (threshold_problem_of m) z n → SameFraction (cost_at (threshold_problem_of m) z n) cost
    → IfOk (checked_values (take (m.size - 1) point)) (λ values. IsRead m values cost)
read m alike compare scales s point z n cost pp pc same least cost_is =
    let written : IsWriting point z n = record { den_pos = least.feasible.den_pos; same = same } in
    let gaps = take (m.size - 1) point in
    IfOk-weaker (checked_values gaps) (IsWritten (scale_of (take (m.size - 1) z)) n) (λ values. IsRead m values cost)
    (λ values h. record {
      least = least_in_each m alike compare values (scale_of (take (m.size - 1) z)) n h.0 h.1 (scales z n least);
      span_is = first_is m z n cost values s pc least cost_is h;
    })
    (values_written gaps (take (m.size - 1) z) n (All-take IsFraction (m.size - 1) point pp) (IsWriting-take (m.size - 1) point z n written))

-- ---- what the functions of the code cite

-- the point of the threshold problem has a number for each gap, and five more
pub gaps_are_there : (m : Judgements) (point : List Fraction) (value : Fraction) → 2 ≤ m.size → IsLeastAnswer (threshold_problem_of m) point value → m.size - 1 ≤ length point
gaps_are_there m point value s h =
    let long = SameFractions-length (over h.is.x h.is.n) point h.is.same in
    omega (arith, long, length-over h.is.x h.is.n, h.is.least.feasible.one_each)

-- a span certificate of the cost is one of the span
certifies_span : (m : Judgements) (on : Cert) (value : Fraction) (values : List Fraction) → IsFraction value → IsFraction (span values)
    → SameFraction value (span values) → IsSpanCertificate (problem_of m) on value → IsSpanCertificate (problem_of m) on (span values)
certifies_span m on value values pv ps same h = record {
  den_pos = h.den_pos;
  value_den_pos = ps;
  entries = h.entries;
  below_cost = h.below_cost;
  value_is = SameFraction-trans (record { num = (combination (problem_of m) on.on).bound; den = on.den }) value (span values) h.den_pos pv ps h.value_is same;
}

-- the scale that is read from the least point, with its proof
pub scale_with_proof : (m : Judgements)
    → ((w v : List ℤ) (n k : ℤ) → pos 0 <ℤ k → SameFractions (over w n) (over v k) → IsMetBy m w n → IsMetBy m v k)
    → ((w v x y : List ℤ) (n k l j : ℤ) → pos 0 <ℤ n → pos 0 <ℤ k → pos 0 <ℤ l → pos 0 <ℤ j → SameFractions (over w n) (over v k) → SameFractions (over x l) (over y j) → IsSmaller w n x l → IsSmaller v k y j)
    → ((z : List ℤ) (n : ℤ) → IsLeast (threshold_problem_of m) z n → IsLeastScale m (scale_of (take (m.size - 1) z)) n)
    → 2 ≤ m.size → (point : List Fraction) (value : Fraction) (values : List Fraction) (on : Cert)
    → IsLeastAnswer (threshold_problem_of m) point value → AreFractions point → IsFraction value → AreFractions values → All IsReduced values
    → checked_values (take (m.size - 1) point) ≡ Ok values → IsSpanCertificate (problem_of m) on value
    → IsLeastWithProof m values on × AreGapSums m (Ok values)
scale_with_proof m alike compare scales s point value values on h pp pv ps reduced worked proof =
    let found = subst (λ r. IfOk r (λ values. IsRead m values value)) worked
    (read m alike compare scales s point h.is.x h.is.n value pp pv h.is.same h.is.least h.cost) in (
      record {
        least = found.least;
        reduced = reduced;
        proof = certifies_span m on value values pv (first_fraction values ps) found.span_is proof;
      },
      record { point = point; least = h.is; reduced = h.point_reduced; are = worked },
    )
  where
    first_fraction : (fs : List Fraction) → AreFractions fs → IsFraction (span fs)
    first_fraction [] h = lt_z_yes tt
    first_fraction (f ∷ fs) h = All-head IsFraction f fs h

-- ---- what was found, and the count

-- a run that is too wide is found so
pub too_wide_found : (m : Judgements) (p : ProblemData) (count after : ℕ) (told : SolveFault) → p ≡ threshold_problem_of m → told ≡ solve_fault.TooWide
    → IsSolved p count (Err told) after → IsFoundBy m count (Err fault.TooWide) after
too_wide_found m p count after told is wide h =
    let run = subst₂ (λ q f. IsSolved q count (Err f) after) is wide h in
    record { end = Err pivot.TooWide; pivots = run.0; run = run.1; counted = run.2; ends = inl refl }

-- what was found with a count of its own is found with its pivots added
pub added_to : (m : Judgements) (count none made after : ℕ) (answer : Result Basic ScaleFault) → none ≡ 0 → IsFoundBy m none answer made
    → after ≡ capped_sum count made → IsFoundBy m count answer after
added_to m count none made after answer is_none found added = record {
  end = found.end;
  pivots = found.pivots;
  run = found.run;
  counted = added ∙ ap (capped_sum count) (found.counted ∙ ap (λ n. capped_sum n found.pivots) is_none) ∙ capped_sum-counted count found.pivots;
  ends = found.ends;
}
