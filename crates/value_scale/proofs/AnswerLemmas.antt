-- Each matrix has an answer: the run of its threshold problem ends, and its end gives one.
use Rattle.std.specs.Result.{IfOk}
use Rattle.std.proofs.Common.{◌≡◌, inl, inr, ℕ, ◌-◌, ◌≤◌, ℤ, pos, ◌<ℤ◌, List, take, All, Result, Ok, Err, refl, sym, subst, ◌∙◌}
use Rattle.std.proofs.lemmas.List.Elements.{All-take, All-weaker}
use Rattle.integers.specs.Fraction.{Fraction, IsFraction, AreFractions, SameFractions, over}
use Rattle.frac128.specs.Entries.{entries_from}
use Rattle.frac128.specs.Frac.{IsReduced}
use Rattle.frac128.specs.Problem.{IsProblem, IsInfeasible, IsLeast, IsSpanCertificate}
use Rattle.frac128.specs.declared.number.TooWide.{TooWide as Wide}
use Rattle.frac128.specs.declared.problem.Cert.{Cert}
use Rattle.judgement_matrix.specs.Matrix.{Judgements, IsMatrix}
use Rattle.judgement_matrix.specs.Scale.{IsMetBy, IsInconsistent}
use Rattle.judgement_matrix.specs.Least.{IsSmaller, IsLeastScale}
use Rattle.lp_macbeth.specs.Gaps.{scale_of}
use Rattle.lp_macbeth.specs.Rows.{problem_of}
use Rattle.lp_macbeth.specs.Threshold.{threshold_problem_of}
use Rattle.lp_macbeth.specs.Translated.{IsCarried}
use Rattle.lp_macbeth.proofs.CarryLemmas.{own_numbers, carried}
use Rattle.lp_macbeth.proofs.ThresholdProblemLemmas.{IsProblem-threshold_problem_of}
use Rattle.lex_simplex.specs.Answer.{IsOutcome, IsLeastAnswer, end_of}
use Rattle.lex_simplex.specs.Count.{capped_sum}
use Rattle.lex_simplex.specs.Turn.{IsRun}
use Rattle.lex_simplex.specs.declared.end.End.{End}
use Rattle.lex_simplex.specs.declared.end.End.TheVariants.{Optimal, Empty}
use Rattle.lex_simplex.specs.declared.end.PivotFault.{PivotFault}
use Rattle.lex_simplex.specs.declared.end.PivotFault.TheVariants as pivot
use Rattle.lex_simplex.specs.declared.outcome.Outcome.{Outcome}
use Rattle.lex_simplex.specs.declared.outcome.Outcome.TheVariants.{Least, Nothing}
use Rattle.lex_simplex.proofs.Ends.Existence.{run_has_outcome}
use Rattle.lex_simplex.proofs.Runs.Ending.{problem_run_exists}
use Rattle.value_scale.specs.Basic.{IsFound, IsAnswered, Certifies}
use Rattle.value_scale.specs.GapSums.{checked_values}
use Rattle.value_scale.specs.declared.basic.Basic.{Basic}
use Rattle.value_scale.specs.declared.basic.Basic.TheVariants.{Scale, Inconsistent}
use Rattle.value_scale.specs.declared.fault.ScaleFault.{ScaleFault}
use Rattle.value_scale.specs.declared.fault.ScaleFault.TheVariants as fault
use Rattle.value_scale.proofs.BasicLemmas.{scale_with_proof}
use Rattle.value_scale.proofs.GapLemmas.{values_reduced}

-- ---- answers

-- an answer for a count, other than that memory is wanted, and the count after it
abbrev pub HasAnswer : Judgements → ℕ → Type 0
HasAnswer m count = (answer : Result Basic ScaleFault) × (after : ℕ) × IsAnswered answer × IsFound m count answer after

-- the certificate on the rows of the matrix
abbrev on_own_rows : Judgements → Cert → Cert
on_own_rows m cert = record { den = cert.den; on = entries_from 0 (own_numbers m cert.on) }

is_on_own_rows : (m : Judgements) → IsMatrix m → (cert : Cert) → IsCarried m cert (on_own_rows m cert)
is_on_own_rows m is cert = carried m is cert cert.den (entries_from 0 (own_numbers m cert.on)) refl refl

-- what an outcome of the threshold problem tells has a certificate on the rows of the matrix
abbrev pub HaveCertificates : Judgements → Type 0
HaveCertificates m = (outcome : Outcome) → IsOutcome (threshold_problem_of m) outcome → (cert : Cert) × Certifies m outcome cert

-- since its certificate is carried over
certificates : (m : Judgements) → IsMatrix m → HaveCertificates m
certificates m is (Least point value cert) h = (on_own_rows m cert, (is_on_own_rows m is cert).span value h.1)
certificates m is (Nothing cert) h = let c = is_on_own_rows m is cert in (on_own_rows m cert, (c.farkas h.1, c.den ∙ h.2))

-- what the laws of scales say of a matrix
pub record ScaleLaws (m : Judgements) : Type 0 where
  pub alike : (w v : List ℤ) (n k : ℤ) → pos 0 <ℤ k → SameFractions (over w n) (over v k) → IsMetBy m w n → IsMetBy m v k
  pub compare : (w v x y : List ℤ) (n k l j : ℤ) → pos 0 <ℤ n → pos 0 <ℤ k → pos 0 <ℤ l → pos 0 <ℤ j → SameFractions (over w n) (over v k)
      → SameFractions (over x l) (over y j) → IsSmaller w n x l → IsSmaller v k y j
  pub scales : (z : List ℤ) (n : ℤ) → IsLeast (threshold_problem_of m) z n → IsLeastScale m (scale_of (take (m.size - 1) z)) n
  pub none : IsInfeasible (threshold_problem_of m) → IsInconsistent m

-- where the run ends with a least point
optimal_answers : (m : Judgements) → ScaleLaws m → 2 ≤ m.size → (count pivots : ℕ) → IsRun (threshold_problem_of m) (Ok Optimal) pivots
    → (point : List Fraction) (value : Fraction) (cert : Cert) → IsLeastAnswer (threshold_problem_of m) point value
    → IsSpanCertificate (problem_of m) cert value → HasAnswer m count
optimal_answers m laws two count pivots run point value cert least proof = sums (checked_values gaps) refl
  where
    gaps : List Fraction
    gaps = take (m.size - 1) point

    fractions : AreFractions point
    fractions = All-weaker IsReduced IsFraction (λ f r. r.0) point least.point_reduced

    sums : (r : Result (List Fraction) Wide) → checked_values gaps ≡ r → HasAnswer m count
    sums (Ok values) worked =
        let reduced : All IsReduced values = subst (λ r. IfOk r (All IsReduced)) worked
        (values_reduced gaps (All-take IsFraction (m.size - 1) point fractions)) in
        let both = scale_with_proof m laws.alike laws.compare laws.scales two point value values cert least fractions least.value_reduced.0
        (All-weaker IsReduced IsFraction (λ f r. r.0) values reduced) reduced worked proof in (
          Ok (Scale values cert),
          capped_sum count pivots,
          tt,
          (both.0, record { end = Ok Optimal; pivots = pivots; run = run; counted = refl; ends = (refl, both.1) }),
        )
    sums (Err wide) worked = (
      Err fault.TooWide,
      capped_sum count pivots,
      tt,
      record {
        end = Ok Optimal;
        pivots = pivots;
        run = run;
        counted = refl;
        ends = inr (refl, record { point = point; least = least.is; reduced = least.point_reduced; are = worked });
      },
    )

-- where it ends in range
ended_answers : (m : Judgements) → ScaleLaws m → HaveCertificates m → 2 ≤ m.size → (count pivots : ℕ) (end : End)
    → IsRun (threshold_problem_of m) (Ok end) pivots → (outcome : Outcome) → IsOutcome (threshold_problem_of m) outcome → end_of outcome ≡ end
    → HasAnswer m count
ended_answers m laws certified two count pivots end run (Least point value on) is same =
    let own = certified (Least point value on) is in
    optimal_answers m laws two count pivots (subst (λ e. IsRun (threshold_problem_of m) (Ok e) pivots) (sym same) run) point value own.0 is.0 own.1
ended_answers m laws certified two count pivots end run (Nothing on) is same =
    let own = certified (Nothing on) is in (
      Ok (Inconsistent own.0),
      capped_sum count pivots,
      tt,
      (
        record { none = laws.none is.0; proof = own.1.0; over_one = own.1.1 },
        record {
          end = Ok Empty;
          pivots = pivots;
          run = subst (λ e. IsRun (threshold_problem_of m) (Ok e) pivots) (sym same) run;
          counted = refl;
          ends = refl;
        },
      ),
    )

-- for each count there is an answer
pub has_answer : (m : Judgements) → IsMatrix m → ScaleLaws m → 2 ≤ m.size → (count : ℕ) → HasAnswer m count
has_answer m is laws two count = by_end (problem_run_exists (threshold_problem_of m) problem)
  where
    problem : IsProblem (threshold_problem_of m)
    problem = IsProblem-threshold_problem_of m is

    by_end : ((end : Result End PivotFault) × (n : ℕ) × IsRun (threshold_problem_of m) end n) → HasAnswer m count
    by_end (Ok end, n, run) =
        let told = run_has_outcome (threshold_problem_of m) end n problem run in
        ended_answers m laws (certificates m is) two count n end run told.0 told.1 told.2
    by_end (Err pivot.TooWide, n, run) = (
      Err fault.TooWide,
      capped_sum count n,
      tt,
      record { end = Err pivot.TooWide; pivots = n; run = run; counted = refl; ends = inl refl },
    )
