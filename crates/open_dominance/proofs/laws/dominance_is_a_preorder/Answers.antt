use Rattle.open_dominance.proofs.OrderLemmas.{dominates_itself, dominates_through}
use Rattle.open_dominance.proofs.laws.dominance_is_a_preorder.Goals as goal

pub returns-clause-reflexive : goal.returns-clause-reflexive
returns-clause-reflexive c = dominates_itself

pub returns-clause-transitive : goal.returns-clause-transitive
returns-clause-transitive c = dominates_through
