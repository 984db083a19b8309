use Rattle.std.proofs.Common.{◌∙◌}
use Rattle.session_edits.proofs.ReplyLemmas.{of_rows}
use Rattle.session_edits.proofs.matrices.row_bounds.Goals as goal

pub returns-clause-among : goal.returns-clause-among
returns-clause-among c =
    of_rows c.args.matrix.now c.as_slice.result.now c.bounds_of.result (c.as_slice.ensures.value ∙ c.in_ok-rows.ensures) c.bounds_of.ensures
