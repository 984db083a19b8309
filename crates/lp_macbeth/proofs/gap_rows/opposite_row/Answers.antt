use Rattle.std.proofs.Common.{rules}
use Rattle.lp_macbeth.proofs.RangeLemmas.{IsRow-opposite}
use Rattle.lp_macbeth.proofs.gap_rows.opposite_row.Goals as goal

pub returns-clause-fits : goal.returns-clause-fits
returns-clause-fits c = search (rules, IsRow-opposite)
