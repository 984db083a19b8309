use Rattle.judgement_matrix.proofs.ScaleLemmas.{IsMetBy-same}
use Rattle.judgement_matrix.proofs.laws.writings_meet_alike.Goals as goal

pub returns : goal.returns
returns c = IsMetBy-same c.args.matrix.now
