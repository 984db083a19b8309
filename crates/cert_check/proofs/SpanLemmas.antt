-- The lines of a span certificate.
use Rattle.std.proofs.Common.{◌≡◌, ◌↔◌, ℕ, ◌+◌, ◌-◌, ◌<◌, ◌≤◌, length, get_or, ◌∷◌, ℤ, pos, ◌*ℤ◌, ◌≤ℤ◌, ◌<ℤ◌, sym, subst, ◌∙◌, arith}
use Rattle.std.specs.Prelude.{All}
use Rattle.std.proofs.lemmas.List.Elements.{All-nil, All-cons, All-head, All-tail}
use Rattle.integers.specs.Fraction.{Fraction, IsFraction, SameFraction}
use Rattle.integers.specs.Vector.{int_sum}
use Rattle.frac128.specs.Problem.{ProblemData, IsProblem, AreRowMultipliers, combination, IsSpanCertificate}
use Rattle.frac128.specs.Range.{IsInRange}
use Rattle.frac128.specs.declared.problem.Cert.{Cert}
use Rattle.frac128.proofs.Combination.{below_cost-from_places, below_cost-at}
use Rattle.cert_check.specs.Entries.{IsEntry, products_on, added_in_turn, coefficient, bound}
use Rattle.cert_check.specs.Columns.{IsColumnBelow, ColumnFits, PassBefore, IsFailingColumn, IsWideColumn}
use Rattle.cert_check.specs.Lines.{Passes, IsReached, IsFirstFalse, IsFirstTooWide, IsPassed, AllSay, span_check, IsCommonLine}
use Rattle.cert_check.specs.declared.verdict.Place.TheVariants.{Den, Entry, Column, Bound}
use Rattle.cert_check.proofs.CertificateLemmas.{coefficient_is, bound_is}
use Rattle.cert_check.proofs.EntryLemmas.{IsEntry-at}
use Rattle.cert_check.proofs.FarkasLemmas.{entries_from_lines, back}
use Rattle.cert_check.proofs.ReachedLemmas.{reached-column, reached-bound, passed-all}

-- nothing is formed for an entry
entry_passes : (p : ProblemData) (value : Fraction) (cert : Cert) (k : ℕ) → IsEntry (length p.rows) cert.on (k - 1) → Passes (span_check p value cert) (Entry k)
entry_passes p value cert k says = (says, All-nil IsInRange)

-- entries that are as they should be
entries_pass : (p : ProblemData) (value : Fraction) (cert : Cert) → AreRowMultipliers (length p.rows) cert.on → (k : ℕ) → IsCommonLine p cert (Entry k)
    → Passes (span_check p value cert) (Entry k)
entries_pass p value cert all k line = entry_passes p value cert k (IsEntry-at (length p.rows) cert.on all (k - 1) (omega arith))

-- a coefficient
says_column : (p : ProblemData) (cert : Cert) (j : ℕ) → IsColumnBelow p cert.den cert.on j
    → get_or (combination p cert.on).coefs j (pos 0) ≤ℤ (cert.den *ℤ get_or p.cost j (pos 0))
says_column p cert j below = subst (λ z. z ≤ℤ (cert.den *ℤ get_or p.cost j (pos 0))) (coefficient_is p cert.on j) below

below_column : (p : ProblemData) (cert : Cert) (j : ℕ) → get_or (combination p cert.on).coefs j (pos 0) ≤ℤ (cert.den *ℤ get_or p.cost j (pos 0))
    → IsColumnBelow p cert.den cert.on j
below_column p cert j says = subst (λ z. z ≤ℤ (cert.den *ℤ get_or p.cost j (pos 0))) (sym (coefficient_is p cert.on j)) says

-- what is formed for a column is in range
fits_column : (p : ProblemData) (cert : Cert) (j : ℕ) → ColumnFits p cert.den cert.on j
    → All IsInRange ((cert.den *ℤ get_or p.cost j (pos 0)) ∷ added_in_turn (pos 0) (products_on (coefficient j) p.rows cert.on))
fits_column p cert j fits = All-cons IsInRange (cert.den *ℤ get_or p.cost j (pos 0)) (added_in_turn (pos 0) (products_on (coefficient j) p.rows cert.on))
    fits.most fits.sums

column_fits : (p : ProblemData) (cert : Cert) (j : ℕ) → All IsInRange
    ((cert.den *ℤ get_or p.cost j (pos 0)) ∷ added_in_turn (pos 0) (products_on (coefficient j) p.rows cert.on)) → ColumnFits p cert.den cert.on j
column_fits p cert j fits = record {
  sums = All-tail IsInRange (cert.den *ℤ get_or p.cost j (pos 0)) (added_in_turn (pos 0) (products_on (coefficient j) p.rows cert.on)) fits;
  most = All-head IsInRange (cert.den *ℤ get_or p.cost j (pos 0)) (added_in_turn (pos 0) (products_on (coefficient j) p.rows cert.on)) fits;
}

-- columns that were found to pass
columns_pass : (p : ProblemData) (value : Fraction) (cert : Cert) (n k : ℕ) → PassBefore p cert.den cert.on n → 1 ≤ k → k ≤ n
    → Passes (span_check p value cert) (Column k)
columns_pass p value cert n k before least most =
    let inside : k - 1 < n = omega arith in
    (says_column p cert (k - 1) (before.below (k - 1) inside), fits_column p cert (k - 1) (before.fit (k - 1) inside))

-- a denominator of at least 1
den_passes : (p : ProblemData) (value : Fraction) (cert : Cert) → pos 0 <ℤ cert.den → Passes (span_check p value cert) Den
den_passes p value cert positive = (positive, All-nil IsInRange)

-- ---- what each end of the check amounts to

-- the check comes to a column
reached : (p : ProblemData) (value : Fraction) (cert : Cert) (j : ℕ) → pos 0 <ℤ cert.den → AreRowMultipliers (length p.rows) cert.on → j < p.vars
    → PassBefore p cert.den cert.on j → IsReached (span_check p value cert) (Column (j + 1))
reached p value cert j positive entries inside before =
    reached-column (span_check p value cert) (j + 1) (omega arith, omega arith) (λ line. den_passes p value cert positive) (entries_pass p value cert entries)
    (λ k line less. columns_pass p value cert j k before line.0 (omega arith))

-- a column that is false
pub span-column : (p : ProblemData) (value : Fraction) (cert : Cert) (j : ℕ) → pos 0 <ℤ cert.den → AreRowMultipliers (length p.rows) cert.on
    → IsFailingColumn p cert.den cert.on j → IsFirstFalse (span_check p value cert) (Column (j + 1))
span-column p value cert j positive entries failing = record {
  reached = reached p value cert j positive entries failing.column failing.before;
  fits = subst (λ n. All IsInRange ((cert.den *ℤ get_or p.cost n (pos 0)) ∷ added_in_turn (pos 0) (products_on (coefficient n) p.rows cert.on))) (sym (back j))
      (fits_column p cert j failing.fits);
  false = λ says. failing.fails (below_column p cert j (subst (λ n. get_or (combination p cert.on).coefs n (pos 0) ≤ℤ (cert.den *ℤ get_or p.cost n (pos 0)))
      (back j) says));
}

-- a column that is too wide
pub span-wide_column : (p : ProblemData) (value : Fraction) (cert : Cert) (j : ℕ) → pos 0 <ℤ cert.den → AreRowMultipliers (length p.rows) cert.on
    → IsWideColumn p cert.den cert.on j → IsFirstTooWide (span_check p value cert) (Column (j + 1))
span-wide_column p value cert j positive entries wide = record {
  reached = reached p value cert j positive entries wide.column wide.before;
  too_wide = λ fits. wide.wide (column_fits p cert j
      (subst (λ n. All IsInRange ((cert.den *ℤ get_or p.cost n (pos 0)) ∷ added_in_turn (pos 0) (products_on (coefficient n) p.rows cert.on))) (back j) fits));
}

-- the check comes to the bound
pub span-reached_bound : (p : ProblemData) (value : Fraction) (cert : Cert) → pos 0 <ℤ cert.den → AreRowMultipliers (length p.rows) cert.on
    → PassBefore p cert.den cert.on p.vars → IsReached (span_check p value cert) Bound
span-reached_bound p value cert positive entries before =
    reached-bound (span_check p value cert) tt (λ line. den_passes p value cert positive) (entries_pass p value cert entries)
    (λ k line. columns_pass p value cert p.vars k before line.0 line.1)

-- the bound is too wide
pub span-wide_bound : (p : ProblemData) (value : Fraction) (cert : Cert) → pos 0 <ℤ cert.den → AreRowMultipliers (length p.rows) cert.on
    → PassBefore p cert.den cert.on p.vars
    → ¬ All IsInRange (added_in_turn (pos 0) (products_on bound p.rows cert.on)) → IsFirstTooWide (span_check p value cert) Bound
span-wide_bound p value cert positive entries before wide = record { reached = span-reached_bound p value cert positive entries before; too_wide = wide }

-- the bound is false
pub span-bound : (p : ProblemData) (value : Fraction) (cert : Cert) (sum : ℤ) → pos 0 <ℤ cert.den → AreRowMultipliers (length p.rows) cert.on
    → PassBefore p cert.den cert.on p.vars
    → All IsInRange (added_in_turn (pos 0) (products_on bound p.rows cert.on)) → sum ≡ int_sum (products_on bound p.rows cert.on)
    → ¬ SameFraction (record { num = sum; den = cert.den }) value → IsFirstFalse (span_check p value cert) Bound
span-bound p value cert sum positive entries before fits is false = record {
  reached = span-reached_bound p value cert positive entries before;
  fits = fits;
  false = λ says. false (subst (λ z. SameFraction (record { num = z; den = cert.den }) value) (sym (is ∙ bound_is p cert.on)) says);
}

-- all lines pass
pub span-passed : (p : ProblemData) (value : Fraction) (cert : Cert) (sum : ℤ) → pos 0 <ℤ cert.den → AreRowMultipliers (length p.rows) cert.on
    → PassBefore p cert.den cert.on p.vars
    → All IsInRange (added_in_turn (pos 0) (products_on bound p.rows cert.on)) → sum ≡ int_sum (products_on bound p.rows cert.on)
    → SameFraction (record { num = sum; den = cert.den }) value → IsPassed (span_check p value cert)
span-passed p value cert sum positive entries before fits is same =
    passed-all (span_check p value cert) (span-reached_bound p value cert positive entries before)
    (subst (λ z. SameFraction (record { num = z; den = cert.den }) value) (is ∙ bound_is p cert.on) same, fits)

-- ---- the certificate

-- the lines together say that it is one
pub span-lines : (p : ProblemData) (value : Fraction) (cert : Cert) → IsProblem p → IsFraction value
    → AllSay (span_check p value cert) ↔ IsSpanCertificate p cert value
span-lines p value cert ok fraction = (certificate, lines)
  where
    certificate : AllSay (span_check p value cert) → IsSpanCertificate p cert value
    certificate say =
        let entries = entries_from_lines p cert (λ k line. say (Entry k) line) in
        record {
          den_pos = say Den tt;
          value_den_pos = fraction;
          entries = entries;
          below_cost = below_cost-from_places p ok cert.on entries.positions_below cert.den
              (λ j inside. subst (λ n. get_or (combination p cert.on).coefs n (pos 0) ≤ℤ (cert.den *ℤ get_or p.cost n (pos 0))) (back j)
              (say (Column (j + 1)) (omega arith, omega arith)));
          value_is = say Bound tt;
        }

    lines : IsSpanCertificate p cert value → AllSay (span_check p value cert)
    lines h Den line = h.den_pos
    lines h (Entry k) line = IsEntry-at (length p.rows) cert.on h.entries (k - 1) (omega arith)
    lines h (Column k) line = below_cost-at p cert.on cert.den h.below_cost (k - 1)
    lines h Bound line = h.value_is
