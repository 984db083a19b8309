use Rattle.judgement_matrix.proofs.ScaleLemmas.{zeros_meet}
use Rattle.judgement_matrix.proofs.laws.zeros_meet_what_is_unjudged.Goals as goal

pub returns : goal.returns
returns c = zeros_meet c.args.size
