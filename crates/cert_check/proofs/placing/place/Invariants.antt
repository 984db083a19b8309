use Rattle.std.proofs.Common.{ℕ, ◌<◌, take}
use Rattle.cert_check.specs.Rows.{AreNamed, IsRowAt}
use Rattle.cert_check.proofs.placing.place.Given as goal

abbrev pub invariant-loop-i : goal.invariant-loop-i
invariant-loop-i l = record {
  named : AreNamed l.matrix (take l.i l.text.on) l.on.items;
  rows : (k : ℕ) → k < l.i → IsRowAt l.matrix l.text.on k;
}
