-- A check of lines that are each decided has an answer.
use Rattle.std.proofs.Common.{◌≡◌, ◌⊎◌, inl, inr, ℕ, zero, suc, ◌+◌, ◌-◌, ◌<◌, ◌≤◌, ◌^◌, length, List, ℤ, pos, ◌*ℤ◌, ◌≤ℤ◌, unsigned_abs, subst, sym, arith}
use Rattle.std.specs.Prelude.{Result, Ok, Err}
use Rattle.std.proofs.lemmas.Bool.{cases_eq}
use Rattle.integers.specs.Fraction.{Fraction}
use Rattle.frac128.specs.Problem.{ProblemData, combination}
use Rattle.frac128.specs.Range.{IsInRange}
use Rattle.frac128.specs.declared.number.TooWide.{TooWide}
use Rattle.frac128.specs.declared.problem.Cert.{Cert}
use Rattle.cert_check.specs.Entries.{IsEntry, entry_at}
use Rattle.cert_check.specs.Lines.{Check, Passes, Fits, IsReached, IsVerdict, IsCommonLine, IsSpanLine, coefficient_at, column_cost, SpanLineSays, FarkasLineSays, span_check, farkas_check}
use Rattle.cert_check.specs.declared.verdict.Place.{Place}
use Rattle.cert_check.specs.declared.verdict.Place.TheVariants.{Den, Entry, Column, Bound}
use Rattle.cert_check.specs.declared.verdict.Verdict.{Verdict}
use Rattle.cert_check.specs.declared.verdict.Verdict.TheVariants.{Holds, Fails}
use Rattle.cert_check.proofs.DecidedLemmas.{Decided, decided_both, decided_same, decided_all, decided_less, decided_same_int, decided_less_int, decided_most_int}
use Rattle.cert_check.proofs.ReachedLemmas.{reached-den, reached-entry, reached-column, reached-bound, passed-all}

-- an answer
abbrev pub Answered : Check → Type 0
Answered check = (v : Result Verdict TooWide) × IsVerdict check v

-- ---- a check

-- where its lines end, and that each is decided
pub record IsDecidedCheck (check : Check) : Type 0 where
  pub entries : ℕ
  pub columns : ℕ
  pub entries_end : (k : ℕ) → check.IsLine (Entry k) → k < entries
  pub columns_end : (j : ℕ) → check.IsLine (Column j) → j < columns
  pub is_line : (place : Place) → Decided (check.IsLine place)
  pub says : (place : Place) → Decided (check.Says place)
  pub bound_is_line : check.IsLine Bound

-- the place is no line, or the line passes
abbrev PassesIfLine : Check → Place → Type 0
PassesIfLine check place = check.IsLine place → Passes check place

-- a place to which the check comes passes, or is where it ends
passes_or_ends : (check : Check) → IsDecidedCheck check → (place : Place) → (check.IsLine place → IsReached check place)
    → PassesIfLine check place ⊎ Answered check
passes_or_ends check decided place reached =
    by_tests (decided.is_line place) (decided_all IsInRange (λ z. decided_less (unsigned_abs z) (2 ^ 127)) (check.formed place)) (decided.says place)
  where
    by_tests : Decided (check.IsLine place) → Decided (Fits check place) → Decided (check.Says place) → PassesIfLine check place ⊎ Answered check
    by_tests (inr not) fits says = inl (λ line. absurd (not line))
    by_tests (inl line) (inr too_wide) says = inr (Err (record {}), (place, record { reached = reached line; too_wide = too_wide }))
    by_tests (inl line) (inl fits) (inr false) = inr (Ok (Fails place), record { reached = reached line; fits = fits; false = false })
    by_tests (inl line) (inl fits) (inl says) = inl (λ line. (says, fits))

-- one number after the other has a property, or there is an end
each_or_end : (P : ℕ → Type 0) (End : Type 0) → ((k : ℕ) → ((i : ℕ) → i < k → P i) → P k ⊎ End) → (n : ℕ) → ((i : ℕ) → i < n → P i) ⊎ End
each_or_end P End next zero = inl (λ i below. absurd (omega arith))
each_or_end P End next (suc n) = by_before (each_or_end P End next n)
  where
    one_more : ((i : ℕ) → i < n → P i) → P n ⊎ End → ((i : ℕ) → i < suc n → P i) ⊎ End
    one_more before (inl last) = inl (λ i below. by_place i below (cases_eq i n))
      where
        by_place : (i : ℕ) → i < suc n → (i ≡ n) ⊎ ¬ (i ≡ n) → P i
        by_place i below (inl same) = subst P (sym same) last
        by_place i below (inr other) = before i (omega arith)
    one_more before (inr end) = inr end

    by_before : ((i : ℕ) → i < n → P i) ⊎ End → ((i : ℕ) → i < suc n → P i) ⊎ End
    by_before (inl before) = one_more before (next n before)
    by_before (inr end) = inr end

-- ---- the lines in order: the denominator, the entries, the columns, the bound

-- lines by number
abbrev AllPass : Check → (ℕ → Place) → Type 0
AllPass check at = (k : ℕ) → PassesIfLine check (at k)

-- below the end, and so all
all_pass : (check : Check) (at : ℕ → Place) (n : ℕ) → ((k : ℕ) → check.IsLine (at k) → k < n) → ((k : ℕ) → k < n → PassesIfLine check (at k)) → AllPass check at
all_pass check at n end below k line = below k (end k line) line

-- the bound
from_columns : (check : Check) → IsDecidedCheck check → PassesIfLine check Den → AllPass check (λ k. Entry k) → AllPass check (λ j. Column j) → Answered check
from_columns check decided den entries columns = by_bound (passes_or_ends check decided Bound (λ line. reached))
  where
    reached : IsReached check Bound
    reached = reached-bound check decided.bound_is_line den entries columns

    by_bound : PassesIfLine check Bound ⊎ Answered check → Answered check
    by_bound (inl bound) = (Ok Holds, passed-all check reached (bound decided.bound_is_line))
    by_bound (inr end) = end

-- the columns
from_entries : (check : Check) → IsDecidedCheck check → PassesIfLine check Den → AllPass check (λ k. Entry k) → Answered check
from_entries check decided den entries = by_columns (each_or_end (λ j. PassesIfLine check (Column j)) (Answered check) next decided.columns)
  where
    next : (j : ℕ) → ((i : ℕ) → i < j → PassesIfLine check (Column i)) → PassesIfLine check (Column j) ⊎ Answered check
    next j before = passes_or_ends check decided (Column j) (λ line. reached-column check j line den entries (λ i is_line below. before i below is_line))

    by_columns : ((j : ℕ) → j < decided.columns → PassesIfLine check (Column j)) ⊎ Answered check → Answered check
    by_columns (inl columns) = from_columns check decided den entries (all_pass check (λ j. Column j) decided.columns decided.columns_end columns)
    by_columns (inr end) = end

-- the entries
from_den : (check : Check) → IsDecidedCheck check → PassesIfLine check Den → Answered check
from_den check decided den = by_entries (each_or_end (λ k. PassesIfLine check (Entry k)) (Answered check) next decided.entries)
  where
    next : (k : ℕ) → ((i : ℕ) → i < k → PassesIfLine check (Entry i)) → PassesIfLine check (Entry k) ⊎ Answered check
    next k before = passes_or_ends check decided (Entry k) (λ line. reached-entry check k line den (λ i is_line below. before i below is_line))

    by_entries : ((k : ℕ) → k < decided.entries → PassesIfLine check (Entry k)) ⊎ Answered check → Answered check
    by_entries (inl entries) = from_entries check decided den (all_pass check (λ k. Entry k) decided.entries decided.entries_end entries)
    by_entries (inr end) = end

-- a check of decided lines
pub every_check_ends : (check : Check) → IsDecidedCheck check → Answered check
every_check_ends check decided = by_den (passes_or_ends check decided Den (reached-den check))
  where
    by_den : PassesIfLine check Den ⊎ Answered check → Answered check
    by_den (inl den) = from_den check decided den
    by_den (inr end) = end

-- ---- the two checks

-- an entry stands after the one before
after_last : (on : List (ℕ × ℤ)) (i : ℕ) → Decided ((k : ℕ) → k + 1 ≡ i → (entry_at on k).0 < (entry_at on i).0)
after_last on zero = inl (λ k next. absurd (omega arith))
after_last on (suc i) = decided_same
    (λ (less : (entry_at on i).0 < (entry_at on (suc i)).0) (k : ℕ) (next : k + 1 ≡ suc i).
    let same : i ≡ k = omega arith in
    subst (λ n. (entry_at on n).0 < (entry_at on (suc i)).0) same less)
    (λ all. all i (omega arith)) (decided_less (entry_at on i).0 (entry_at on (suc i)).0)

-- an entry is as it should be
is_entry : (count : ℕ) (on : List (ℕ × ℤ)) (i : ℕ) → Decided (IsEntry count on i)
is_entry count on i = by_parts (decided_less (entry_at on i).0 count) (after_last on i) (decided_most_int (pos 0) (entry_at on i).1)
  where
    by_parts : Decided ((entry_at on i).0 < count) → Decided ((k : ℕ) → k + 1 ≡ i → (entry_at on k).0 < (entry_at on i).0)
        → Decided (pos 0 ≤ℤ (entry_at on i).1) → Decided (IsEntry count on i)
    by_parts (inl row) (inl rises) (inl nonneg) = inl (record { names_row = row; after_last = rises; nonneg = nonneg })
    by_parts (inr not) rises nonneg = inr (λ h. not h.names_row)
    by_parts (inl row) (inr not) nonneg = inr (λ h. not h.after_last)
    by_parts (inl row) (inl rises) (inr not) = inr (λ h. not h.nonneg)

-- a place of a list, from 1 on
is_place : (n k : ℕ) → Decided ((1 ≤ k) × (k ≤ n))
is_place n k = decided_same (λ (h : (0 < k) × (k < n + 1)). (omega arith, omega arith)) (λ h. (omega arith, omega arith))
    (decided_both (decided_less 0 k) (decided_less k (n + 1)))

-- the lines but for the denominator
is_common_line : (p : ProblemData) (cert : Cert) (place : Place) → Decided (IsCommonLine p cert place)
is_common_line p cert Den = inr (λ line. line)
is_common_line p cert (Entry k) = is_place (length cert.on) k
is_common_line p cert (Column j) = is_place p.vars j
is_common_line p cert Bound = inl tt

-- a check of a span certificate has an answer
pub every_span_check_has_a_verdict : (p : ProblemData) (value : Fraction) (cert : Cert) → Answered (span_check p value cert)
every_span_check_has_a_verdict p value cert = every_check_ends (span_check p value cert) (record {
  entries = length cert.on + 1;
  columns = p.vars + 1;
  entries_end = λ k line. omega arith;
  columns_end = λ j line. omega arith;
  is_line = is_line;
  says = says;
  bound_is_line = tt;
})
  where
    is_line : (place : Place) → Decided (IsSpanLine p cert place)
    is_line Den = inl tt
    is_line (Entry k) = is_common_line p cert (Entry k)
    is_line (Column j) = is_common_line p cert (Column j)
    is_line Bound = is_common_line p cert Bound

    says : (place : Place) → Decided (SpanLineSays p value cert place)
    says Den = decided_less_int (pos 0) cert.den
    says (Entry k) = is_entry (length p.rows) cert.on (k - 1)
    says (Column j) = decided_most_int (coefficient_at p cert j) (cert.den *ℤ column_cost p j)
    says Bound = decided_same_int ((combination p cert.on).bound *ℤ value.den) (value.num *ℤ cert.den)

-- a check of a Farkas certificate has an answer
pub every_farkas_check_has_a_verdict : (p : ProblemData) (cert : Cert) → Answered (farkas_check p cert)
every_farkas_check_has_a_verdict p cert = every_check_ends (farkas_check p cert) (record {
  entries = length cert.on + 1;
  columns = p.vars + 1;
  entries_end = λ k line. omega arith;
  columns_end = λ j line. omega arith;
  is_line = is_common_line p cert;
  says = says;
  bound_is_line = tt;
})
  where
    says : (place : Place) → Decided (FarkasLineSays p cert place)
    says Den = inl tt
    says (Entry k) = is_entry (length p.rows) cert.on (k - 1)
    says (Column j) = decided_most_int (coefficient_at p cert j) (pos 0)
    says Bound = decided_less_int (pos 0) (combination p cert.on).bound
