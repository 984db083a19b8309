use Rattle.std.proofs.Common.{◌≡◌, length}
use Rattle.value_scale.specs.Anchor.{AreAnchored, FaultSays, checked_anchor}
use Rattle.value_scale.proofs.AnchorLemmas.{anchored_is, anchored_length}
use Rattle.value_scale.proofs.GivesLemmas.{answered}
use Rattle.value_scale.proofs.anchored_scale.stretched.Goals as goal

pub returns-clause-each : goal.returns-clause-each
returns-clause-each c =
    let fs = c.args.values.now in
    answered FaultSays (λ v. v.items) (checked_anchor fs c.args.good c.args.neutral) c.worked.result (λ vs. length vs ≡ length fs)
    (anchored_length fs c.args.good c.args.neutral) c.worked.ensures

pub returns-clause-anchored : goal.returns-clause-anchored
returns-clause-anchored c =
    let fs = c.args.values.now in
    answered FaultSays (λ v. v.items) (checked_anchor fs c.args.good c.args.neutral) c.worked.result (AreAnchored fs c.args.good c.args.neutral)
    (anchored_is fs c.args.good c.args.neutral c.are_fractions.ensures.positive c.requires.references c.requires.falling c.requires.apart) c.worked.ensures
