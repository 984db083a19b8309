-- What a check has seen where it comes to a line.
use Rattle.std.proofs.Common.{ℕ, ◌<◌, ◌↔◌}
use Rattle.std.specs.Prelude.{Result, Ok, Err, IsErr}
use Rattle.frac128.specs.declared.number.TooWide.{TooWide}
use Rattle.cert_check.specs.declared.verdict.Place.{Place}
use Rattle.cert_check.specs.declared.verdict.Place.TheVariants.{Den, Entry, Column, Bound}
use Rattle.cert_check.specs.declared.verdict.Verdict.{Verdict}
use Rattle.cert_check.specs.declared.verdict.Verdict.TheVariants.{Holds, Fails}
use Rattle.cert_check.specs.Lines.{Check, IsBefore, Passes, IsReached, IsPassed, AllSay, IsVerdict, IsFirstTooWide, Decides}

-- nothing is before the denominator
pub reached-den : (check : Check) → check.IsLine Den → IsReached check Den
reached-den check here = record { is_line = here; passed = step }
  where
    step : (line : Place) → check.IsLine line → IsBefore line Den → Passes check line
    step Den is_line before = absurd before
    step (Entry i) is_line before = absurd before
    step (Column i) is_line before = absurd before
    step Bound is_line before = absurd before

-- the entries before it
pub reached-entry : (check : Check) (k : ℕ) → check.IsLine (Entry k) → (check.IsLine Den → Passes check Den)
    → ((i : ℕ) → check.IsLine (Entry i) → i < k → Passes check (Entry i)) → IsReached check (Entry k)
reached-entry check k here den entries = record { is_line = here; passed = step }
  where
    step : (line : Place) → check.IsLine line → IsBefore line (Entry k) → Passes check line
    step Den is_line before = den is_line
    step (Entry i) is_line before = entries i is_line before
    step (Column i) is_line before = absurd before
    step Bound is_line before = absurd before

-- all entries, and the columns before it
pub reached-column : (check : Check) (k : ℕ) → check.IsLine (Column k) → (check.IsLine Den → Passes check Den)
    → ((i : ℕ) → check.IsLine (Entry i) → Passes check (Entry i))
    → ((i : ℕ) → check.IsLine (Column i) → i < k → Passes check (Column i)) → IsReached check (Column k)
reached-column check k here den entries columns = record { is_line = here; passed = step }
  where
    step : (line : Place) → check.IsLine line → IsBefore line (Column k) → Passes check line
    step Den is_line before = den is_line
    step (Entry i) is_line before = entries i is_line
    step (Column i) is_line before = columns i is_line before
    step Bound is_line before = absurd before

-- all lines but the bound
pub reached-bound : (check : Check) → check.IsLine Bound → (check.IsLine Den → Passes check Den)
    → ((i : ℕ) → check.IsLine (Entry i) → Passes check (Entry i))
    → ((i : ℕ) → check.IsLine (Column i) → Passes check (Column i)) → IsReached check Bound
reached-bound check here den entries columns = record { is_line = here; passed = step }
  where
    step : (line : Place) → check.IsLine line → IsBefore line Bound → Passes check line
    step Den is_line before = den is_line
    step (Entry i) is_line before = entries i is_line
    step (Column i) is_line before = columns i is_line
    step Bound is_line before = absurd before

-- and the bound
pub passed-all : (check : Check) → IsReached check Bound → Passes check Bound → IsPassed check
passed-all check reached bound = step
  where
    step : (line : Place) → check.IsLine line → Passes check line
    step Den is_line = reached.passed Den is_line tt
    step (Entry i) is_line = reached.passed (Entry i) is_line tt
    step (Column i) is_line = reached.passed (Column i) is_line tt
    step Bound is_line = bound

-- a verdict decides what all lines together say
pub Decides-from_verdict : (check : Check) (Fact : Type 0) → AllSay check ↔ Fact → (result : Result Verdict TooWide) → IsVerdict check result
    → Decides Fact result
Decides-from_verdict check Fact same (Ok Holds) passed = same.0 (λ line is_line. (passed line is_line).0)
Decides-from_verdict check Fact same (Ok (Fails place)) first = λ fact. first.false (same.1 fact place first.reached.is_line)
Decides-from_verdict check Fact same (Err wide) first = tt

-- a refusal, where a line is the first that doesn't fit
pub IsVerdict-refused : (check : Check) (result : Result Verdict TooWide) → IsErr result → (place : Place) → IsFirstTooWide check place → IsVerdict check result
IsVerdict-refused check (Ok verdict) refused place wide = absurd (cc)
IsVerdict-refused check (Err e) refused place wide = (place, wide)
