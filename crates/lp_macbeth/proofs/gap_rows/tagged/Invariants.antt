use Rattle.std.proofs.Common.{◌≡◌, ◌++◌, drop, map}
use Rattle.lp_macbeth.specs.Rows.{row_of}
use Rattle.lp_macbeth.proofs.gap_rows.tagged.Given as goal

abbrev pub invariant-loop-tag : goal.invariant-loop-tag
invariant-loop-tag l = l.rows.items ++ map (λ tag. (tag, row_of l.matrix tag)) (drop l.tag-index l.tags) ≡ map (λ tag. (tag, row_of l.matrix tag)) l.tags
