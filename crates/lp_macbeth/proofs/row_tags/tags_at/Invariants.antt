use Rattle.std.proofs.Common.{◌≡◌, take, map}
use Rattle.std.specs.Prelude.{Some, slice_get}
use Rattle.lp_macbeth.specs.Rows.{judged_rows}
use Rattle.lp_macbeth.proofs.row_tags.tags_at.Given as goal

abbrev pub invariant-loop-position : goal.invariant-loop-position
invariant-loop-position l = map Some l.tags.items ≡ map (slice_get (judged_rows l.matrix)) (take l.position-index l.positions)
