use Rattle.open_dominance.proofs.ShareLemmas.{shares_are_shares}
use Rattle.open_dominance.proofs.laws.shares_keep_below_zero.Goals as goal

pub returns-clause-share : goal.returns-clause-share
returns-clause-share c = λ g h pg ph below. (shares_are_shares g h pg ph below).0

pub returns-clause-below : goal.returns-clause-below
returns-clause-below c = λ g h pg ph below. (shares_are_shares g h pg ph below).1
