-- The lines of a Farkas certificate.
use Rattle.std.proofs.Common.{◌≡◌, ◌↔◌, ℕ, ◌+◌, ◌-◌, ◌<◌, ◌≤◌, length, get_or, ℤ, pos, ◌*ℤ◌, ◌≤ℤ◌, ◌<ℤ◌, sym, subst, ◌∙◌, arith}
use Rattle.std.specs.Prelude.{All}
use Rattle.std.proofs.Math.IntN.{zero-*ℤ}
use Rattle.std.proofs.lemmas.List.{get_or_default}
use Rattle.std.proofs.lemmas.List.Elements.{All-nil}
use Rattle.integers.specs.Vector.{int_sum}
use Rattle.frac128.specs.Problem.{ProblemData, IsProblem, AreRowMultipliers, combination, IsFarkasCertificate}
use Rattle.frac128.specs.Range.{IsInRange}
use Rattle.frac128.specs.declared.problem.Cert.{Cert}
use Rattle.frac128.proofs.Combination.{length-combination}
use Rattle.cert_check.specs.Entries.{IsEntry, products_on, added_in_turn, coefficient, bound}
use Rattle.cert_check.specs.Columns.{IsColumnBelow, PassBefore, IsFailingColumn, IsWideColumn}
use Rattle.cert_check.specs.Lines.{Passes, IsReached, IsFirstFalse, IsFirstTooWide, IsPassed, AllSay, farkas_check, IsCommonLine}
use Rattle.cert_check.specs.declared.verdict.Place.TheVariants.{Den, Entry, Column, Bound}
use Rattle.cert_check.proofs.CertificateLemmas.{coefficient_is, bound_is}
use Rattle.cert_check.proofs.EntryLemmas.{IsEntry-at, AreRowMultipliers-from_entries}
use Rattle.cert_check.proofs.ReachedLemmas.{reached-column, reached-bound, passed-all}

-- nothing is formed for an entry
entry_passes : (p : ProblemData) (cert : Cert) (k : ℕ) → IsEntry (length p.rows) cert.on (k - 1) → Passes (farkas_check p cert) (Entry k)
entry_passes p cert k says = (says, All-nil IsInRange)

-- entries that are as they should be
entries_pass : (p : ProblemData) (cert : Cert) → AreRowMultipliers (length p.rows) cert.on → (k : ℕ) → IsCommonLine p cert (Entry k)
    → Passes (farkas_check p cert) (Entry k)
entries_pass p cert all k line = entry_passes p cert k (IsEntry-at (length p.rows) cert.on all (k - 1) (omega arith))

-- a coefficient against 0 times a cost
says_column : (p : ProblemData) (cert : Cert) (j : ℕ) → IsColumnBelow p (pos 0) cert.on j → get_or (combination p cert.on).coefs j (pos 0) ≤ℤ pos 0
says_column p cert j below =
    subst (λ z. z ≤ℤ pos 0) (coefficient_is p cert.on j)
    (subst (λ z. int_sum (products_on (coefficient j) p.rows cert.on) ≤ℤ z) (zero-*ℤ (get_or p.cost j (pos 0))) below)

below_column : (p : ProblemData) (cert : Cert) (j : ℕ) → get_or (combination p cert.on).coefs j (pos 0) ≤ℤ pos 0 → IsColumnBelow p (pos 0) cert.on j
below_column p cert j says =
    subst (λ z. int_sum (products_on (coefficient j) p.rows cert.on) ≤ℤ z) (sym (zero-*ℤ (get_or p.cost j (pos 0))))
    (subst (λ z. z ≤ℤ pos 0) (sym (coefficient_is p cert.on j)) says)

-- 0 times a cost is in range
most_fits : (cost : ℤ) → IsInRange (pos 0 *ℤ cost)
most_fits cost = subst IsInRange (sym (zero-*ℤ cost)) (omega arith)

-- columns that were found to pass
columns_pass : (p : ProblemData) (cert : Cert) (n k : ℕ) → PassBefore p (pos 0) cert.on n → 1 ≤ k → k ≤ n → Passes (farkas_check p cert) (Column k)
columns_pass p cert n k before least most =
    let inside : k - 1 < n = omega arith in
    (says_column p cert (k - 1) (before.below (k - 1) inside), (before.fit (k - 1) inside).sums)

-- one more, less one
pub back : (j : ℕ) → j + 1 - 1 ≡ j
back j = omega arith

-- the denominator is not looked at
no_den : (p : ProblemData) (cert : Cert) → IsCommonLine p cert Den → Passes (farkas_check p cert) Den
no_den p cert line = absurd line

-- ---- what each end of the check amounts to

-- the check comes to a column
reached : (p : ProblemData) (cert : Cert) (j : ℕ) → AreRowMultipliers (length p.rows) cert.on → j < p.vars → PassBefore p (pos 0) cert.on j
    → IsReached (farkas_check p cert) (Column (j + 1))
reached p cert j entries inside before =
    reached-column (farkas_check p cert) (j + 1) (omega arith, omega arith) (no_den p cert) (entries_pass p cert entries)
    (λ k line less. columns_pass p cert j k before line.0 (omega arith))

-- a column that is false
pub farkas-column : (p : ProblemData) (cert : Cert) (j : ℕ) → AreRowMultipliers (length p.rows) cert.on → IsFailingColumn p (pos 0) cert.on j
    → IsFirstFalse (farkas_check p cert) (Column (j + 1))
farkas-column p cert j entries failing = record {
  reached = reached p cert j entries failing.column failing.before;
  fits = subst (λ n. All IsInRange (added_in_turn (pos 0) (products_on (coefficient n) p.rows cert.on))) (sym (back j)) failing.fits.sums;
  false = λ says. failing.fails (below_column p cert j (subst (λ n. get_or (combination p cert.on).coefs n (pos 0) ≤ℤ pos 0) (back j) says));
}

-- a column that is too wide
pub farkas-wide_column : (p : ProblemData) (cert : Cert) (j : ℕ) → AreRowMultipliers (length p.rows) cert.on → IsWideColumn p (pos 0) cert.on j
    → IsFirstTooWide (farkas_check p cert) (Column (j + 1))
farkas-wide_column p cert j entries wide = record {
  reached = reached p cert j entries wide.column wide.before;
  too_wide = λ fits. wide.wide (record {
    sums = subst (λ n. All IsInRange (added_in_turn (pos 0) (products_on (coefficient n) p.rows cert.on))) (back j) fits;
    most = most_fits (get_or p.cost j (pos 0));
  });
}

-- the check comes to the bound
pub farkas-reached_bound : (p : ProblemData) (cert : Cert) → AreRowMultipliers (length p.rows) cert.on → PassBefore p (pos 0) cert.on p.vars
    → IsReached (farkas_check p cert) Bound
farkas-reached_bound p cert entries before =
    reached-bound (farkas_check p cert) tt (no_den p cert) (entries_pass p cert entries) (λ k line. columns_pass p cert p.vars k before line.0 line.1)

-- the bound is too wide
pub farkas-wide_bound : (p : ProblemData) (cert : Cert) → AreRowMultipliers (length p.rows) cert.on → PassBefore p (pos 0) cert.on p.vars
    → ¬ All IsInRange (added_in_turn (pos 0) (products_on bound p.rows cert.on)) → IsFirstTooWide (farkas_check p cert) Bound
farkas-wide_bound p cert entries before wide = record { reached = farkas-reached_bound p cert entries before; too_wide = wide }

-- the bound is false
pub farkas-bound : (p : ProblemData) (cert : Cert) (sum : ℤ) → AreRowMultipliers (length p.rows) cert.on → PassBefore p (pos 0) cert.on p.vars
    → All IsInRange (added_in_turn (pos 0) (products_on bound p.rows cert.on)) → sum ≡ int_sum (products_on bound p.rows cert.on) → ¬ (pos 0 <ℤ sum)
    → IsFirstFalse (farkas_check p cert) Bound
farkas-bound p cert sum entries before fits is false = record {
  reached = farkas-reached_bound p cert entries before;
  fits = fits;
  false = λ says. false (subst (λ z. pos 0 <ℤ z) (sym (is ∙ bound_is p cert.on)) says);
}

-- all lines pass
pub farkas-passed : (p : ProblemData) (cert : Cert) (sum : ℤ) → AreRowMultipliers (length p.rows) cert.on → PassBefore p (pos 0) cert.on p.vars
    → All IsInRange (added_in_turn (pos 0) (products_on bound p.rows cert.on)) → sum ≡ int_sum (products_on bound p.rows cert.on) → pos 0 <ℤ sum
    → IsPassed (farkas_check p cert)
farkas-passed p cert sum entries before fits is positive =
    passed-all (farkas_check p cert) (farkas-reached_bound p cert entries before) (subst (λ z. pos 0 <ℤ z) (is ∙ bound_is p cert.on) positive, fits)

-- ---- the certificate

-- the entries that the lines speak of
pub entries_from_lines : (p : ProblemData) (cert : Cert) → ((k : ℕ) → IsCommonLine p cert (Entry k) → IsEntry (length p.rows) cert.on (k - 1))
    → AreRowMultipliers (length p.rows) cert.on
entries_from_lines p cert lines =
    AreRowMultipliers-from_entries (length p.rows) cert.on
    (λ k below. subst (IsEntry (length p.rows) cert.on) (back k) (lines (k + 1) (omega arith, omega arith)))

-- the lines together say that it is one
pub farkas-lines : (p : ProblemData) (cert : Cert) → IsProblem p → AllSay (farkas_check p cert) ↔ IsFarkasCertificate p cert
farkas-lines p cert ok = (certificate, lines)
  where
    certificate : AllSay (farkas_check p cert) → IsFarkasCertificate p cert
    certificate say =
        let entries = entries_from_lines p cert (λ k line. say (Entry k) line) in
        let long = length-combination p ok cert.on entries.positions_below in
        record {
          entries = entries;
          none_above = λ j d inside.
              let here : j < p.vars = subst (λ n. j < n) long inside in
              let most = subst (λ n. get_or (combination p cert.on).coefs n (pos 0) ≤ℤ pos 0) (back j) (say (Column (j + 1)) (omega arith, omega arith)) in
              subst (λ z. z ≤ℤ pos 0) (get_or_default (combination p cert.on).coefs j (pos 0) d inside) most;
          bound_above = say Bound tt;
        }

    lines : IsFarkasCertificate p cert → AllSay (farkas_check p cert)
    lines h Den line = tt
    lines h (Entry k) line = IsEntry-at (length p.rows) cert.on h.entries (k - 1) (omega arith)
    lines h (Column k) line = h.none_above (k - 1) (pos 0)
        (subst (λ n. k - 1 < n) (sym (length-combination p ok cert.on h.entries.positions_below)) (omega arith))
    lines h Bound line = h.bound_above
