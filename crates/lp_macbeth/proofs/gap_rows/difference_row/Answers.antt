use Rattle.std.proofs.Common.{rules}
use Rattle.lp_macbeth.proofs.RangeLemmas.{IsRow-difference}
use Rattle.lp_macbeth.proofs.gap_rows.difference_row.Goals as goal

pub returns-clause-fits : goal.returns-clause-fits
returns-clause-fits c = search (rules, IsRow-difference)
