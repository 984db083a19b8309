use Rattle.std.proofs.Common.{◌≡◌, ℕ, ◌+◌, ◌<◌}
use Rattle.cert_check.specs.Entries.{IsEntry, entry_at}
use Rattle.cert_check.proofs.entries.first_false_entry.Given as goal

abbrev pub invariant-loop-i : goal.invariant-loop-i
invariant-loop-i l = record {
  hold : (k : ℕ) → k < l.i → IsEntry l.count l.on k;
  first : l.i ≡ 0 → l.least ≡ 0;
  next : (k : ℕ) → k + 1 ≡ l.i → l.least ≡ (entry_at l.on k).0 + 1;
}
