use Rattle.std.proofs.Common.{rules}
use Rattle.lp_macbeth.proofs.WeightingRowLemmas.{IsRow-weighting}
use Rattle.lp_macbeth.proofs.weighting.weighting_row.Goals as goal

pub returns-clause-fits : goal.returns-clause-fits
returns-clause-fits c = search (rules, IsRow-weighting)
