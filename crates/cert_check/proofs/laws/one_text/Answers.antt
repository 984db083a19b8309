use Rattle.cert_check.proofs.OneText.{one_text, no_bad_line}
use Rattle.cert_check.proofs.laws.one_text.Goals as goal

pub returns-clause-same : goal.returns-clause-same
returns-clause-same c = one_text c.args.bytes.now c.args.first.now c.args.second.now c.requires.first c.requires.second

pub returns-clause-no_bad_line : goal.returns-clause-no_bad_line
returns-clause-no_bad_line c = λ k. no_bad_line c.args.bytes.now c.args.first.now k c.requires.first
