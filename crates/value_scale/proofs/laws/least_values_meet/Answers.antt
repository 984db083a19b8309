use Rattle.value_scale.proofs.MetLemmas.{values_each, last_is_zero, met_never_rise, least_meet}
use Rattle.value_scale.proofs.laws.least_values_meet.Goals as goal

pub returns-clause-meet : goal.returns-clause-meet
returns-clause-meet c = least_meet c.args.matrix.now c.args.values.now c.requires

pub returns-clause-each : goal.returns-clause-each
returns-clause-each c =
    let met = least_meet c.args.matrix.now c.args.values.now c.requires in
    let are = c.are_fractions.ensures.positive in
    record {
      each = values_each c.args.matrix.now c.args.values.now are met;
      last = last_is_zero c.args.matrix.now c.args.values.now c.size.ensures.matrix.least are met;
    }

pub returns-clause-fall : goal.returns-clause-fall
returns-clause-fall c = met_never_rise c.args.matrix.now c.args.values.now c.are_fractions.ensures.positive
    (least_meet c.args.matrix.now c.args.values.now c.requires)
