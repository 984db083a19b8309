use Rattle.judgement_matrix.proofs.ScaleLemmas.{IsLeastScale-unique}
use Rattle.judgement_matrix.proofs.laws.one_least_scale.Goals as goal

pub returns : goal.returns
returns c = IsLeastScale-unique c.args.matrix.now
