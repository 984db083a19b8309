use Rattle.value_scale.proofs.GapLemmas.{checked_values-means, checked_values-length, checked_values-reduced}
use Rattle.value_scale.proofs.laws.worked_values_are_scales.Goals as goal

pub returns-clause-scale : goal.returns-clause-scale
returns-clause-scale c gaps values pg is = (checked_values-means gaps values pg is, checked_values-reduced gaps values pg is)

pub returns-clause-each : goal.returns-clause-each
returns-clause-each c = checked_values-length
