use Rattle.value_scale.proofs.AnchorLaws.{anchored_one}
use Rattle.value_scale.proofs.laws.one_anchored_scale.Goals as goal

pub returns : goal.returns
returns c = anchored_one
