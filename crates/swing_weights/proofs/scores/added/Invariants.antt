use Rattle.std.proofs.Common.{◌≡◌, drop}
use Rattle.swing_weights.specs.Score.{checked_score, checked_score_from}
use Rattle.swing_weights.proofs.scores.added.Given as goal

abbrev pub invariant-loop-i : goal.invariant-loop-i
invariant-loop-i l = checked_score_from l.sum (drop l.i l.weights) (drop l.i l.values) ≡ checked_score l.weights l.values
