use Rattle.std.proofs.Common.{length}
use Rattle.cert_check.specs.Reading.{HasEntries}
use Rattle.cert_check.proofs.reading.read_entries.Given as goal

abbrev pub invariant-loop-alloc : goal.invariant-loop-alloc
invariant-loop-alloc l = HasEntries l.text l.count l.on.items l.rest

abbrev pub decreases-loop-alloc : goal.decreases-loop-alloc
decreases-loop-alloc l = length l.rest
