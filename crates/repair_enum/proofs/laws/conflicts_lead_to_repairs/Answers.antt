use Rattle.repair_enum.proofs.ConflictLemmas.{conflicts_lead}
use Rattle.repair_enum.proofs.laws.conflicts_lead_to_repairs.Goals as goal

pub returns : goal.returns
returns c = λ s t cert. conflicts_lead c.args.matrix.now s t cert c.size.ensures.matrix c.requires
