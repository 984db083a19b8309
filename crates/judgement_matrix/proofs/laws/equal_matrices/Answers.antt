use Rattle.judgement_matrix.specs.Same.{same_judgements-Decides}
use Rattle.judgement_matrix.proofs.laws.equal_matrices.Goals as goal

pub returns : goal.returns
returns c = same_judgements-Decides c.args.first.now c.args.second.now
