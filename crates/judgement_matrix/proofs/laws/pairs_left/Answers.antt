use Rattle.judgement_matrix.proofs.ChangeLemmas.{cell_at-without}
use Rattle.judgement_matrix.proofs.laws.pairs_left.Goals as goal

pub returns : goal.returns
returns c = cell_at-without c.args.matrix.now c.args.element c.args.p c.args.q c.requires
