use Rattle.std.proofs.Common.{◌≡◌, ◌++◌, drop}
use Rattle.cert_check.specs.Refuting.{numbered}
use Rattle.cert_check.proofs.refuting.numbered.Given as goal

abbrev pub invariant-loop-i : goal.invariant-loop-i
invariant-loop-i l = l.on.items ++ numbered l.i (drop l.i l.entries) ≡ numbered 0 l.entries
