use Rattle.std.proofs.Common.{arith}
use Rattle.cert_check.proofs.EntryLemmas.{AreRowMultipliers-from_entries}
use Rattle.cert_check.proofs.entries.first_false_entry.Goals as goal

pub returns : goal.returns
returns c = AreRowMultipliers-from_entries c.args.count c.args.on.now (λ k below. c.loop-i.invariant.hold k (omega arith))
