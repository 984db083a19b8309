use Rattle.std.proofs.Common.{◌≡◌, rules}
use Rattle.session_edits.proofs.session.Session.set_matrix.Goals as goal

pub set_matrix-outcome-requires : goal.set_matrix-outcome-requires
set_matrix-outcome-requires c =
    let same : c.in_ok-model.model ≡ c.args.self.now.model = search rules in
    rw (same, c.as_bytes.ensures.value) c.requires
