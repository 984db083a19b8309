use Rattle.std.proofs.Common.{rules}
use Rattle.lp_macbeth.proofs.ThresholdRowLemmas.{threshold_step_pieces}
use Rattle.lp_macbeth.proofs.threshold.push_step.Goals as goal

pub returns : goal.returns
returns c = search (rules, threshold_step_pieces)
