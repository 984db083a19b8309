use Rattle.swing_weights.proofs.ScoreLemmas.{checked_score-means, checked_score-reduced}
use Rattle.swing_weights.proofs.laws.worked_scores_are_scores.Goals as goal

pub returns : goal.returns
returns c weights values score pk pv is = (checked_score-means weights values score pk pv is, checked_score-reduced weights values score pk pv is)
