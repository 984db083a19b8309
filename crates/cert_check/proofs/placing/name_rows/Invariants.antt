use Rattle.std.proofs.Common.{take}
use Rattle.cert_check.specs.Rows.{AreNamed}
use Rattle.cert_check.proofs.placing.name_rows.Given as goal

abbrev pub invariant-loop-i : goal.invariant-loop-i
invariant-loop-i l = AreNamed l.matrix l.on.items (take l.i l.cert.on)
