-- The basic scale of a matrix: its least scale with a proof of the span, or a proof that no scale meets it; and when it is found.
use Rattle.std.specs.Prelude.{◌≡◌, ◌⊎◌, ◌-◌, ℕ, ℤ, pos, List, take, get_or, All, Result, Ok, Err}
use Rattle.integers.specs.Fraction.{Fraction, IsWriting, fraction_of}
use Rattle.frac128.specs.Frac.{IsReduced}
use Rattle.frac128.specs.Problem.{IsSpanCertificate, IsFarkasCertificate}
use Rattle.frac128.specs.declared.number.TooWide.{TooWide as Wide}
use Rattle.frac128.specs.declared.problem.Cert.{Cert}
use Rattle.judgement_matrix.specs.Matrix.{Judgements}
use Rattle.judgement_matrix.specs.Scale.{IsInconsistent}
use Rattle.judgement_matrix.specs.Least.{IsLeastScale}
use Rattle.lex_simplex.specs.Answer.{IsLeastPoint}
use Rattle.lex_simplex.specs.Count.{capped_sum}
use Rattle.lex_simplex.specs.Turn.{IsRun}
use Rattle.lex_simplex.specs.declared.outcome.Outcome.{Outcome}
use Rattle.lex_simplex.specs.declared.outcome.Outcome.TheVariants.{Least, Nothing}
use Rattle.lex_simplex.specs.declared.end.End.{End}
use Rattle.lex_simplex.specs.declared.end.End.TheVariants.{Optimal, Empty}
use Rattle.lex_simplex.specs.declared.end.PivotFault.{PivotFault}
use Rattle.lex_simplex.specs.declared.end.PivotFault.TheVariants as pivot
use Rattle.lp_macbeth.specs.Rows.{problem_of}
use Rattle.lp_macbeth.specs.Threshold.{threshold_problem_of}
use Rattle.value_scale.specs.GapSums.{checked_values}
use Rattle.value_scale.specs.declared.basic.Basic.{Basic}
use Rattle.value_scale.specs.declared.basic.Basic.TheVariants.{Scale, Inconsistent}
use Rattle.value_scale.specs.declared.fault.ScaleFault.{ScaleFault}
use Rattle.value_scale.specs.declared.fault.ScaleFault.TheVariants as fault

-- the fractions are the values of the least scale, however they are written over one denominator
abbrev pub AreLeastValues : Judgements → List Fraction → Type 0
AreLeastValues m values = (w : List ℤ) (n : ℤ) → IsWriting values w n → IsLeastScale m w n

-- the span of a scale: its first value, as the last one is 0
abbrev pub span : List Fraction → Fraction
span values = get_or values 0 (fraction_of (pos 0))

-- the values of the least scale, in lowest terms, and a certificate on the rows of the matrix that no scale has a smaller span
pub record IsLeastWithProof (m : Judgements) (values : List Fraction) (cert : Cert) : Type 0 where
  pub least : AreLeastValues m values
  pub reduced : All IsReduced values
  pub proof : IsSpanCertificate (problem_of m) cert (span values)

-- no scale meets the matrix, and a certificate on its rows, over 1, that none does
pub record IsRefuted (m : Judgements) (cert : Cert) : Type 0 where
  pub none : IsInconsistent m
  pub proof : IsFarkasCertificate (problem_of m) cert
  pub over_one : cert.den ≡ pos 1

-- what a basic scale says of its matrix
abbrev pub IsBasic : Judgements → Basic → Type 0
IsBasic m (Scale values cert) = IsLeastWithProof m values cert
IsBasic m (Inconsistent cert) = IsRefuted m cert

-- ---- when it is found

-- the sums of the gaps of the least point of the threshold problem, which is taken in lowest terms
pub record AreGapSums (m : Judgements) (sums : Result (List Fraction) Wide) : Type 0 where
  pub point : List Fraction
  pub least : IsLeastPoint (threshold_problem_of m) point
  pub reduced : All IsReduced point
  pub are : checked_values (take (m.size - 1) point) ≡ sums

-- the end of the run of the threshold problem behind an answer, and the gap sums that it was made of
abbrev pub EndsSo : Judgements → Result Basic ScaleFault → Result End PivotFault → Type 0
EndsSo m (Ok (Scale values cert)) end = (end ≡ Ok Optimal) × AreGapSums m (Ok values)
EndsSo m (Ok (Inconsistent cert)) end = end ≡ Ok Empty
EndsSo m (Err fault.TooWide) end = (end ≡ Err pivot.TooWide) ⊎ ((end ≡ Ok Optimal) × AreGapSums m (Err (record {})))
EndsSo m (Err fault.NoMemory) end = Unit {0}

-- what is read from the outcome of the run, which ended so
abbrev pub IsReadSo : Judgements → Result Basic ScaleFault → End → Type 0
IsReadSo m (Ok basic) end = IsBasic m basic × EndsSo m (Ok basic) (Ok end)
IsReadSo m (Err fault) end = EndsSo m (Err fault) (Ok end)

-- a certificate of what the outcome tells, on the rows of the matrix
abbrev pub Certifies : Judgements → Outcome → Cert → Type 0
Certifies m (Least point value cert) on = IsSpanCertificate (problem_of m) on value
Certifies m (Nothing cert) on = IsFarkasCertificate (problem_of m) on × (on.den ≡ pos 1)

-- the run of the threshold problem behind an answer: its end fits the answer, and its pivots are counted
pub record IsFoundBy (m : Judgements) (count : ℕ) (answer : Result Basic ScaleFault) (after : ℕ) : Type 0 where
  pub end : Result End PivotFault
  pub pivots : ℕ
  pub run : IsRun (threshold_problem_of m) end pivots
  pub counted : after ≡ capped_sum count pivots
  pub ends : EndsSo m answer end

-- the basic scale of the matrix, or that the run or a sum of gaps is too wide, with the pivots of the run counted; or no memory
-- is told
abbrev pub IsFound : Judgements → ℕ → Result Basic ScaleFault → ℕ → Type 0
IsFound m count (Ok basic) after = IsBasic m basic × IsFoundBy m count (Ok basic) after
IsFound m count (Err fault.TooWide) after = IsFoundBy m count (Err fault.TooWide) after
IsFound m count (Err fault.NoMemory) after = after ≡ count

-- the same with no count said where memory is wanted
abbrev pub IsFoundOrNoMemory : Judgements → ℕ → Result Basic ScaleFault → ℕ → Type 0
IsFoundOrNoMemory m count (Ok basic) after = IsFound m count (Ok basic) after
IsFoundOrNoMemory m count (Err fault.TooWide) after = IsFound m count (Err fault.TooWide) after
IsFoundOrNoMemory m count (Err fault.NoMemory) after = Unit {0}

-- ---- one answer

-- an answer other than that memory is wanted
abbrev pub IsAnswered : Result Basic ScaleFault → Type 0
IsAnswered (Ok basic) = Unit {0}
IsAnswered (Err fault.TooWide) = Unit {0}
IsAnswered (Err fault.NoMemory) = ⊥

-- the same scale, or both that none meets the matrix, or both the same fault; the multipliers may differ
abbrev pub TellTheSame : Result Basic ScaleFault → Result Basic ScaleFault → Type 0
TellTheSame (Ok (Scale values cert)) (Ok (Scale others on)) = values ≡ others
TellTheSame (Ok (Scale values cert)) (Ok (Inconsistent on)) = ⊥
TellTheSame (Ok (Inconsistent cert)) (Ok (Scale others on)) = ⊥
TellTheSame (Ok (Inconsistent cert)) (Ok (Inconsistent on)) = Unit {0}
TellTheSame (Ok basic) (Err fault) = ⊥
TellTheSame (Err fault) (Ok basic) = ⊥
TellTheSame (Err first) (Err second) = first ≡ second
