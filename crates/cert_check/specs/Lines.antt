-- The lines that are checked of a certificate, in order, and what is to be answered: the first that is false, or that a
-- line formed a number out of range before one was.
use Rattle.std.specs.Prelude.{◌≡◌, ℕ, ◌-◌, ◌<◌, ◌≤◌, List, [], ◌∷◌, length, ℤ, pos, ◌*ℤ◌, ◌≤ℤ◌, ◌<ℤ◌, All, ⊤, Result, Ok, Err, get_or}
use Rattle.integers.specs.Fraction.{Fraction, SameFraction}
use Rattle.frac128.specs.Problem.{ProblemData, combination}
use Rattle.frac128.specs.Range.{IsInRange}
use Rattle.frac128.specs.declared.number.TooWide.{TooWide}
use Rattle.frac128.specs.declared.problem.Cert.{Cert}
use Rattle.cert_check.specs.Entries.{IsEntry, products_on, added_in_turn, coefficient, bound}
use Rattle.cert_check.specs.declared.verdict.Place.{Place}
use Rattle.cert_check.specs.declared.verdict.Place.TheVariants.{Den, Entry, Column, Bound}
use Rattle.cert_check.specs.declared.verdict.Verdict.{Verdict}
use Rattle.cert_check.specs.declared.verdict.Verdict.TheVariants.{Holds, Fails}

-- which lines are checked, what each of them says, and which products and sums its test forms
pub record Check : Type 1 where
  pub IsLine : Place → Type 0
  pub Says : Place → Type 0
  pub formed : Place → List ℤ

-- the order of the lines: the denominator, the entries, the columns, the bound
abbrev pub IsBefore : Place → Place → Type 0
IsBefore place Den = ⊥
IsBefore Den place = ⊤
IsBefore (Entry i) (Entry k) = i < k
IsBefore place (Entry k) = ⊥
IsBefore (Entry i) place = ⊤
IsBefore (Column i) (Column j) = i < j
IsBefore place (Column j) = ⊥
IsBefore (Column j) Bound = ⊤
IsBefore Bound Bound = ⊥

-- no number that a line forms is out of range
abbrev pub Fits : Check → Place → Type 0
Fits check place = All IsInRange (check.formed place)

-- the line is true and fits
abbrev pub Passes : Check → Place → Type 0
Passes check line = check.Says line × Fits check line

-- the check comes to a line: all lines before it pass
pub record IsReached (check : Check) (place : Place) : Type 0 where
  pub is_line : check.IsLine place
  pub passed : (line : Place) → check.IsLine line → IsBefore line place → Passes check line

-- the line is the first that is false, and up to it each line fits
pub record IsFirstFalse (check : Check) (place : Place) : Type 0 where
  pub reached : IsReached check place
  pub fits : Fits check place
  pub false : ¬ check.Says place

-- the line is the first that doesn't fit, and no line before it is false
pub record IsFirstTooWide (check : Check) (place : Place) : Type 0 where
  pub reached : IsReached check place
  pub too_wide : ¬ Fits check place

-- all lines pass
abbrev pub IsPassed : Check → Type 0
IsPassed check = (line : Place) → check.IsLine line → Passes check line

-- all lines are true
abbrev pub AllSay : Check → Type 0
AllSay check = (line : Place) → check.IsLine line → check.Says line

-- what is to be answered
abbrev pub IsVerdict : Check → Result Verdict TooWide → Type 0
IsVerdict check (Ok Holds) = IsPassed check
IsVerdict check (Ok (Fails place)) = IsFirstFalse check place
IsVerdict check (Err wide) = (place : Place) × IsFirstTooWide check place

-- the answer decides a fact, unless it is TooWide
abbrev pub Decides : Type 0 → Result Verdict TooWide → Type 0
Decides Fact (Ok Holds) = Fact
Decides Fact (Ok (Fails place)) = ¬ Fact
Decides Fact (Err wide) = ⊤

-- the fact stands where the answer is Holds
abbrev pub OnHolds : Result Verdict TooWide → Type 0 → Type 0
OnHolds result Fact = result ≡ Ok Holds → Fact

-- ---- the two checks; entries and columns count from 1

-- the lines but for the denominator
abbrev pub IsCommonLine : ProblemData → Cert → Place → Type 0
IsCommonLine p cert Den = ⊥
IsCommonLine p cert (Entry k) = (1 ≤ k) × (k ≤ length cert.on)
IsCommonLine p cert (Column j) = (1 ≤ j) × (j ≤ p.vars)
IsCommonLine p cert Bound = ⊤

-- for a span certificate the denominator is checked too
abbrev pub IsSpanLine : ProblemData → Cert → Place → Type 0
IsSpanLine p cert Den = ⊤
IsSpanLine p cert place = IsCommonLine p cert place

-- the coefficient of a column in the combination
abbrev pub coefficient_at : ProblemData → Cert → ℕ → ℤ
coefficient_at p cert j = get_or (combination p cert.on).coefs (j - 1) (pos 0)

-- the cost of a column
abbrev pub column_cost : ProblemData → ℕ → ℤ
column_cost p j = get_or p.cost (j - 1) (pos 0)

-- what the lines of a span certificate of a value say
abbrev pub SpanLineSays : ProblemData → Fraction → Cert → Place → Type 0
SpanLineSays p value cert Den = pos 0 <ℤ cert.den
SpanLineSays p value cert (Entry k) = IsEntry (length p.rows) cert.on (k - 1)
SpanLineSays p value cert (Column j) = coefficient_at p cert j ≤ℤ (cert.den *ℤ column_cost p j)
SpanLineSays p value cert Bound = SameFraction (record { num = (combination p cert.on).bound; den = cert.den }) value

-- what the lines of a Farkas certificate say
abbrev pub FarkasLineSays : ProblemData → Cert → Place → Type 0
FarkasLineSays p cert Den = ⊤
FarkasLineSays p cert (Entry k) = IsEntry (length p.rows) cert.on (k - 1)
FarkasLineSays p cert (Column j) = coefficient_at p cert j ≤ℤ pos 0
FarkasLineSays p cert Bound = pos 0 <ℤ (combination p cert.on).bound

-- what testing the lines of a Farkas certificate forms
abbrev pub formed_at : ProblemData → Cert → Place → List ℤ
formed_at p cert Den = []
formed_at p cert (Entry k) = []
formed_at p cert (Column j) = added_in_turn (pos 0) (products_on (coefficient (j - 1)) p.rows cert.on)
formed_at p cert Bound = added_in_turn (pos 0) (products_on bound p.rows cert.on)

-- for a span certificate a column's cost times the denominator too
abbrev pub span_formed_at : ProblemData → Cert → Place → List ℤ
span_formed_at p cert (Column j) = (cert.den *ℤ column_cost p j) ∷ formed_at p cert (Column j)
span_formed_at p cert place = formed_at p cert place

-- whether a certificate is a span certificate of a value
abbrev pub span_check : ProblemData → Fraction → Cert → Check
span_check p value cert = record {
  IsLine = IsSpanLine p cert;
  Says = SpanLineSays p value cert;
  formed =
      span_formed_at p cert;
}

-- whether a certificate is a Farkas certificate
abbrev pub farkas_check : ProblemData → Cert → Check
farkas_check p cert = record { IsLine = IsCommonLine p cert; Says = FarkasLineSays p cert; formed = formed_at p cert }
