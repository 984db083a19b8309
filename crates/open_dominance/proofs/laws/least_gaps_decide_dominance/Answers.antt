use Rattle.open_dominance.proofs.ComparedLemmas.{least_gaps_decide}
use Rattle.open_dominance.proofs.laws.least_gaps_decide_dominance.Goals as goal

pub returns : goal.returns
returns c = least_gaps_decide
