use Rattle.judgement_matrix.proofs.ScaleLemmas.{IsSmaller_irrefl, IsSmaller-trans, IsSmaller-cases}
use Rattle.judgement_matrix.proofs.laws.scales_are_ordered.Goals as goal

pub returns-clause-irreflexive : goal.returns-clause-irreflexive
returns-clause-irreflexive c = IsSmaller_irrefl

pub returns-clause-transitive : goal.returns-clause-transitive
returns-clause-transitive c = IsSmaller-trans

pub returns-clause-total : goal.returns-clause-total
returns-clause-total c = IsSmaller-cases c.args.matrix.now
