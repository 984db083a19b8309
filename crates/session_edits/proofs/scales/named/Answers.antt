use Rattle.session_edits.proofs.NamedLemmas.{named_text}
use Rattle.session_edits.proofs.scales.named.Goals as goal

pub returns-clause-value : goal.returns-clause-value
returns-clause-value c =
    named_text c.args.matrix.now c.args.claim c.args.cert.now c.name_rows.result c.name_rows.ensures.named c.name_rows.ensures.claim
