-- Certificates of the threshold problem, and what they say of the matrix's own problem.
use Rattle.std.specs.Prelude.{◌≡◌, ◌⊎◌}
use Rattle.frac128.specs.Problem.{IsSpanCertificate, IsFarkasCertificate}
use Rattle.frac128.specs.declared.problem.Cert.{Cert}
use Rattle.integers.specs.Fraction.{Fraction}
use Rattle.judgement_matrix.specs.Matrix.{Judgements}
use Rattle.lp_macbeth.specs.Rows.{problem_of}
use Rattle.lp_macbeth.specs.Threshold.{threshold_problem_of}

-- the certificate shows a bound of the threshold problem's cost, or that it has no point
abbrev pub ProvesThreshold : Judgements → Cert → Type 0
ProvesThreshold m cert = ((value : Fraction) × IsSpanCertificate (threshold_problem_of m) cert value)
    ⊎ IsFarkasCertificate (threshold_problem_of m) cert

-- what one certificate shows of the threshold problem, the other shows of the matrix's problem, over one denominator
pub record IsCarried (m : Judgements) (cert carried : Cert) : Type 0 where
  pub den : carried.den ≡ cert.den
  pub span : (value : Fraction) → IsSpanCertificate (threshold_problem_of m) cert value
      → IsSpanCertificate (problem_of m) carried value
  pub farkas : IsFarkasCertificate (threshold_problem_of m) cert → IsFarkasCertificate (problem_of m) carried
