use Rattle.swing_weights.proofs.WeightLemmas.{checked_weights-means, checked_weights-length, checked_weights-reduced}
use Rattle.swing_weights.proofs.laws.worked_weights_are_weights.Goals as goal

pub returns-clause-weights : goal.returns-clause-weights
returns-clause-weights c values weights pf h some is = (checked_weights-means values weights pf h some is, checked_weights-reduced values weights pf h some is)

pub returns-clause-each : goal.returns-clause-each
returns-clause-each c = checked_weights-length
