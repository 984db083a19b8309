use Rattle.value_scale.proofs.AnchorLemmas.{checked_anchor-means, checked_anchor-length, checked_anchor-reduced}
use Rattle.value_scale.proofs.laws.worked_anchors_are_anchored.Goals as goal

pub returns-clause-anchored : goal.returns-clause-anchored
returns-clause-anchored c values anchored good neutral are refs falls apart is =
    (checked_anchor-means values good neutral anchored are refs falls apart is, checked_anchor-reduced values good neutral anchored are refs apart is)

pub returns-clause-each : goal.returns-clause-each
returns-clause-each c values anchored good neutral is = checked_anchor-length values good neutral anchored is
