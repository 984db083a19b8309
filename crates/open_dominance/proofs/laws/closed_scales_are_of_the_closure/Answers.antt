use Rattle.open_dominance.proofs.LineLemmas.{closure_of_closed, closed_of_closure}
use Rattle.open_dominance.proofs.laws.closed_scales_are_of_the_closure.Goals as goal

pub returns-clause-closed : goal.returns-clause-closed
returns-clause-closed c = closure_of_closed

pub returns-clause-scales : goal.returns-clause-scales
returns-clause-scales c = closed_of_closure
