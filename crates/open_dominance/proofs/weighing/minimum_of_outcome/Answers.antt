use Rattle.std.proofs.Common.{subst}
use Rattle.lex_simplex.specs.Answer.{IsOutcome}
use Rattle.open_dominance.specs.Weighing.{weighting_form}
use Rattle.open_dominance.proofs.WeighingLemmas.{weighting_has_points}
use Rattle.open_dominance.proofs.weighing.minimum_of_outcome.Goals as goal

pub unreachable-requires : goal.unreachable-requires
unreachable-requires c =
    let a = c.args in
    weighting_has_points a.matrix.now a.order.now a.gaps.now a.closed.now c.size.ensures.matrix c.are_fractions.ensures.positive c.requires.weighting
    c.requires.some (subst (IsOutcome (weighting_form a.matrix.now a.closed.now)) c.in-Nothing.is c.requires.outcome).0
