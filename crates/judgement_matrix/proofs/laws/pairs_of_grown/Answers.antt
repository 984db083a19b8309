use Rattle.judgement_matrix.proofs.ChangeLemmas.{cell_at-grown}
use Rattle.judgement_matrix.proofs.laws.pairs_of_grown.Goals as goal

pub returns : goal.returns
returns c = cell_at-grown c.args.matrix.now c.args.p c.args.q c.requires
