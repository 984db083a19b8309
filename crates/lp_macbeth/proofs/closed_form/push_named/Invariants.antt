use Rattle.std.proofs.Common.{◌≡◌, ◌++◌, drop, map}
use Rattle.lp_macbeth.specs.ClosedThreshold.{with_thresholds}
use Rattle.lp_macbeth.proofs.closed_form.push_named.Given as goal

abbrev pub invariant-loop-row : goal.invariant-loop-row
invariant-loop-row l = l.rows.items ++ map with_thresholds (drop l.row-index l.named) ≡ l.fn.rows.items ++ map with_thresholds l.named
