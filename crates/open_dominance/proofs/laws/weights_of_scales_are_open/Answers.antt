use Rattle.open_dominance.proofs.WeightLemmas.{least_weights_open}
use Rattle.open_dominance.proofs.laws.weights_of_scales_are_open.Goals as goal

pub returns : goal.returns
returns c = least_weights_open
