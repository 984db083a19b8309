use Rattle.std.proofs.Common.{◌∙◌, length, sym, ap, arith}
use Rattle.judgement_matrix.proofs.WalkLemmas.{pairs_from-more, pairs_from-turn}
use Rattle.judgement_matrix.proofs.pairs.PairsIterator.next.Goals as goal

pub returns-then-self-2-clause-steps : goal.returns-then-self-2-clause-steps
returns-then-self-2-clause-steps c =
    let at = c.self.inside in
    sym c.self.view_is ∙ pairs_from-more at.size at.upper at.lower (omega arith)

pub returns-then-self-2-clause-goes : goal.returns-then-self-2-clause-goes
returns-then-self-2-clause-goes c =
    let at = c.self.inside in
    let e = ap length (sym c.self.view_is ∙ pairs_from-more at.size at.upper at.lower (omega arith)) in
    record { on = λ _. (tt, tt, omega (arith, e)); keeps = tt; rests = λ _. tt }

pub returns-else-self-2-clause-steps : goal.returns-else-self-2-clause-steps
returns-else-self-2-clause-steps c =
    let at = c.self.inside in
    sym c.self.view_is ∙ pairs_from-turn at.size at.upper at.lower (omega arith) (omega arith)

pub returns-else-self-2-clause-goes : goal.returns-else-self-2-clause-goes
returns-else-self-2-clause-goes c =
    let at = c.self.inside in
    let e = ap length (sym c.self.view_is ∙ pairs_from-turn at.size at.upper at.lower (omega arith) (omega arith)) in
    record { on = λ _. (tt, tt, omega (arith, e)); keeps = tt; rests = λ _. tt }
