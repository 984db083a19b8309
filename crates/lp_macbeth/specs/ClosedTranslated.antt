-- Certificates of the threshold forms of closed problems, and what they say of the problems.
use Rattle.std.specs.Prelude.{◌≡◌, ◌⊎◌, ℕ, ◌+◌, ◌-◌, ℤ, pos, List, length, map, replicate}
use Rattle.frac128.specs.Entries.{entries_from}
use Rattle.frac128.specs.Problem.{ProblemData, IsSpanCertificate, IsFarkasCertificate}
use Rattle.frac128.specs.declared.problem.Cert.{Cert}
use Rattle.integers.specs.Fraction.{Fraction}
use Rattle.judgement_matrix.specs.Matrix.{Judgements, IsPair}
use Rattle.lp_macbeth.specs.Closed.{closed_problem_with}
use Rattle.lp_macbeth.specs.ClosedWeighting.{weighting_problem_of}
use Rattle.lp_macbeth.specs.Passing.{with_entries, ranges, closed_weights}
use Rattle.lp_macbeth.specs.ClosedThreshold.{closed_threshold_rows, closed_thresholds_with, weighting_thresholds_of}

-- the certificate shows a bound of the problem's cost, or that it has no point
abbrev pub Proves : ProblemData → Cert → Type 0
Proves p cert = ((value : Fraction) × IsSpanCertificate p cert value) ⊎ IsFarkasCertificate p cert

-- what one certificate shows of a form, the other shows of the problem, over one denominator
pub record Carries (form problem : ProblemData) (cert carried : Cert) : Type 0 where
  pub den : carried.den ≡ cert.den
  pub span : (value : Fraction) → IsSpanCertificate form cert value → IsSpanCertificate problem carried value
  pub farkas : IsFarkasCertificate form cert → IsFarkasCertificate problem carried

-- the certificate with the weights of a closed problem's rows, of which so many are named
abbrev pub carried_of : Judgements → ℕ → Cert → Cert
carried_of m named cert = record {
  den = cert.den;
  on = entries_from 0 (map (λ w. pos w) (closed_weights (ranges m) named
      (with_entries (replicate (length (closed_threshold_rows m) + named) 0) cert.on)));
}

-- the certificate shows something of the threshold form of a criterion's closed problem
abbrev pub ProvesClosed : Judgements → Cert → Type 0
ProvesClosed m cert = (good : ℕ) × ((neutral : ℕ) × ((reach : ℕ) × ((cost : List ℤ)
    × Proves (closed_thresholds_with m good neutral reach cost) cert)))

-- and the other shows the same of the problem, whatever the references, the reach and the costs
abbrev pub IsClosedCarried : Judgements → Cert → Cert → Type 0
IsClosedCarried m cert carried = (good neutral reach : ℕ) (cost : List ℤ) → IsPair m.size good neutral
    → length cost ≡ m.size
    → Carries (closed_thresholds_with m good neutral reach cost) (closed_problem_with m good neutral reach cost) cert
    carried

-- the certificate shows something of the threshold form of a weighting's closed problem
abbrev pub ProvesWeighting : Judgements → Cert → Type 0
ProvesWeighting m cert = (cost : List ℤ) × Proves (weighting_thresholds_of m cost) cert

-- and the other shows the same of the problem, whatever the costs
abbrev pub IsWeightingCarried : Judgements → Cert → Cert → Type 0
IsWeightingCarried m cert carried = (cost : List ℤ) → length cost ≡ m.size - 1
    → Carries (weighting_thresholds_of m cost) (weighting_problem_of m cost) cert carried
