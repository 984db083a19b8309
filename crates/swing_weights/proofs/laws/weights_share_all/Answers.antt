use Rattle.swing_weights.proofs.ShareLemmas.{shares_sum, shares_nonneg}
use Rattle.swing_weights.proofs.laws.weights_share_all.Goals as goal

pub returns : goal.returns
returns c = record { sum = shares_sum; none_below = shares_nonneg }
