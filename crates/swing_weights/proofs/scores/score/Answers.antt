use Rattle.std.proofs.Common.{subst, IfOk, sym}
use Rattle.swing_weights.specs.Score.{IsScore}
use Rattle.swing_weights.proofs.ScoreLemmas.{score_is}
use Rattle.swing_weights.proofs.scores.score.Goals as goal

pub returns-clause-value : goal.returns-clause-value
returns-clause-value c =
    subst (λ r. IfOk r (IsScore c.args.weights.now c.args.values.now)) (sym c.added.ensures)
    (score_is c.args.weights.now c.args.values.now c.are_fractions.ensures.positive c.are_fractions-2.ensures.positive)
