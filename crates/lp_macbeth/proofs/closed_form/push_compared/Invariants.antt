use Rattle.std.proofs.Common.{◌≡◌, ◌++◌, drop, map}
use Rattle.lp_macbeth.specs.ClosedThreshold.{closed_threshold_row_of}
use Rattle.lp_macbeth.proofs.closed_form.push_compared.Given as goal

abbrev pub invariant-loop-tag : goal.invariant-loop-tag
invariant-loop-tag l =
    l.rows.items ++ map (closed_threshold_row_of l.matrix l.further) (drop l.tag-index l.tags)
    ≡ l.fn.rows.items ++ map (closed_threshold_row_of l.matrix l.further) l.tags
