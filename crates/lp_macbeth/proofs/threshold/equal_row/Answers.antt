use Rattle.std.proofs.Common.{rules}
use Rattle.lp_macbeth.proofs.ThresholdRowLemmas.{IsRow-equal}
use Rattle.lp_macbeth.proofs.threshold.equal_row.Goals as goal

pub returns-clause-fits : goal.returns-clause-fits
returns-clause-fits c = search (rules, IsRow-equal)
