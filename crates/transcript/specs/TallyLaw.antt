-- The service of the tests begins with a digit, keeps it one, and answers every entry.
use Rattle.std.proofs.Common.{◌≡◌, ℕ, ◌+◌, ◌<◌, ◌≤◌, Bool, true, false, List, refl, sym, subst, nat_lt, if◌then◌else◌, arith}
use Rattle.std.proofs.lemmas.Bool.Decides.{nat_tests}
use Rattle.transcript.specs.Entry.{Entry}
use Rattle.transcript.specs.Rules.{IsKept, IsTotal}
use Rattle.transcript.specs.Tally.{IsDigit, next_count, tally_text, tally_rules}

pub tally_begins : IsDigit 0
tally_begins = omega arith

still_a_digit : (count : ℕ) → IsDigit count → IsDigit (next_count count)
still_a_digit count few = elim (nat_lt count 9) as (λ t. nat_lt count 9 ≡ t → (if t then count + 1 else count) ≤ 9) [
  | true ↦ λ e. grind (arith, nat_tests)
  | false ↦ λ e. few
] refl

pub tally_keeps : IsKept tally_rules
tally_keeps count next entry text few answer = subst IsDigit (sym answer.1) (still_a_digit count few)

pub tally_total : IsTotal tally_rules
tally_total count entry few = (tally_text count entry, next_count count, (refl, refl))
