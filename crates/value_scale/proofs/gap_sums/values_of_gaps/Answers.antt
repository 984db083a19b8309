use Rattle.std.proofs.Common.{◌≡◌, ◌+◌, length}
use Rattle.value_scale.specs.Fault.{FaultSays}
use Rattle.value_scale.specs.GapSums.{AreScaleOf, checked_values}
use Rattle.value_scale.proofs.GapLemmas.{values_length, values_scale}
use Rattle.value_scale.proofs.GivesLemmas.{answered}
use Rattle.value_scale.proofs.gap_sums.values_of_gaps.Goals as goal

pub returns-clause-each : goal.returns-clause-each
returns-clause-each c =
    let gaps = c.args.gaps.now in
    answered FaultSays (λ v. v.items) (checked_values gaps) c.values_of.result (λ vs. length vs ≡ length gaps + 1)
    (values_length gaps c.are_fractions.ensures.positive) c.values_of.ensures

pub returns-clause-scale : goal.returns-clause-scale
returns-clause-scale c =
    let gaps = c.args.gaps.now in
    answered FaultSays (λ v. v.items) (checked_values gaps) c.values_of.result (AreScaleOf gaps)
    (values_scale gaps c.are_fractions.ensures.positive) c.values_of.ensures
