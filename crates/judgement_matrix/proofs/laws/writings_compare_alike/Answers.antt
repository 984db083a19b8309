use Rattle.judgement_matrix.proofs.ScaleLemmas.{IsSmaller-same}
use Rattle.judgement_matrix.proofs.laws.writings_compare_alike.Goals as goal

pub returns : goal.returns
returns c = IsSmaller-same
