use Rattle.value_scale.proofs.AnchorLaws.{anchored_exists}
use Rattle.value_scale.proofs.laws.references_apart_can_be_anchored.Goals as goal

pub returns : goal.returns
returns c = anchored_exists
