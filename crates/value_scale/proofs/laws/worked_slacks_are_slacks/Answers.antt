use Rattle.value_scale.proofs.SlackLemmas.{checked_slack-means}
use Rattle.value_scale.proofs.laws.worked_slacks_are_slacks.Goals as goal

pub returns : goal.returns
returns c = checked_slack-means
