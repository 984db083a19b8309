use Rattle.std.proofs.Common.{◌≡◌, ℕ, ℤ, map, take}
use Rattle.cert_check.proofs.placing.tags_of.Given as goal

abbrev pub invariant-loop-entry : goal.invariant-loop-entry
invariant-loop-entry l = l.positions.items ≡ map (λ (e : ℕ × ℤ). e.0) (take l.entry-index l.entries)
