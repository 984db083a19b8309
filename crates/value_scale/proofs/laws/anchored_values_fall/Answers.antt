use Rattle.value_scale.proofs.AnchorLaws.{anchored_each, anchored_fall}
use Rattle.value_scale.proofs.laws.anchored_values_fall.Goals as goal

pub returns-clause-each : goal.returns-clause-each
returns-clause-each c = anchored_each

pub returns-clause-fall : goal.returns-clause-fall
returns-clause-fall c = anchored_fall
