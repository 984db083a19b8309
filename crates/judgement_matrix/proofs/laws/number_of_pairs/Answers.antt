use Rattle.judgement_matrix.proofs.PlaceLemmas.{length-pairs}
use Rattle.judgement_matrix.proofs.laws.number_of_pairs.Goals as goal

pub returns : goal.returns
returns c = length-pairs c.args.size
