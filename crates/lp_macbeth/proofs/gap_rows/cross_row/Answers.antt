use Rattle.std.proofs.Common.{rules}
use Rattle.lp_macbeth.proofs.RangeLemmas.{IsRow-cross}
use Rattle.lp_macbeth.proofs.gap_rows.cross_row.Goals as goal

pub returns-clause-fits : goal.returns-clause-fits
returns-clause-fits c = search (rules, IsRow-cross)
