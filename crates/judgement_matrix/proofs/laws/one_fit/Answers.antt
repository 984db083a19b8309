use Rattle.judgement_matrix.proofs.FitLemmas.{IsFit-unique}
use Rattle.judgement_matrix.proofs.laws.one_fit.Goals as goal

pub returns : goal.returns
returns c = λ w n. IsFit-unique c.args.matrix.now w n c.args.first c.args.second
