use Rattle.judgement_matrix.proofs.ScaleLemmas.{values_fall}
use Rattle.judgement_matrix.proofs.laws.values_fall.Goals as goal

pub returns : goal.returns
returns c = values_fall c.args.matrix.now
