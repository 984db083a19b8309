use Rattle.value_scale.proofs.MetLemmas.{met_never_rise}
use Rattle.value_scale.proofs.laws.met_values_never_rise.Goals as goal

pub returns : goal.returns
returns c = met_never_rise c.args.matrix.now c.args.values.now c.are_fractions.ensures.positive c.requires
