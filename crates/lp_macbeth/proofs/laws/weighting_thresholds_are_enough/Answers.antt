use Rattle.lp_macbeth.proofs.ClosedFormLemmas.{weighting_thresholds_are}
use Rattle.lp_macbeth.proofs.laws.weighting_thresholds_are_enough.Goals as goal

pub returns : goal.returns
returns c = λ cost each. weighting_thresholds_are c.args.matrix.now cost c.size.ensures.matrix c.requires each
