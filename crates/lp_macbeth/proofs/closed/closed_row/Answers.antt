use Rattle.std.proofs.Common.{rules}
use Rattle.lp_macbeth.proofs.ClosedRowLemmas.{IsRow-closed}
use Rattle.lp_macbeth.proofs.closed.closed_row.Goals as goal

pub returns-clause-fits : goal.returns-clause-fits
returns-clause-fits c = search (rules, IsRow-closed)
