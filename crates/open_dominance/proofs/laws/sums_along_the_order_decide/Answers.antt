use Rattle.open_dominance.proofs.SumLemmas.{sums_decide}
use Rattle.open_dominance.proofs.laws.sums_along_the_order_decide.Goals as goal

pub returns : goal.returns
returns c = sums_decide
