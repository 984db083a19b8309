use Rattle.std.proofs.Common.{◌++◌, ◌∷◌, [], None, slice_set, ap, ◌∙◌}
use Rattle.integers.proofs.Loops.{map_front-done}
use Rattle.model_core.proofs.changes.widen.Goals as goal

pub loop-row-preserved : goal.loop-row-preserved
loop-row-preserved c =
    ap (slice_set c.loop-row.rows c.loop-row.row-index) c.push.ensures
    ∙ map_front-done (λ row. row ++ None ∷ []) c.args.rows.now c.loop-row.rows c.loop-row.row-index c.row-item.result c.loop-row-test.true c.loop-row.invariant
