use Rattle.std.proofs.Common.{length, ap, ◌∙◌}
use Rattle.session_edits.specs.Scores.{partial_score, criteria_under}
use Rattle.session_edits.proofs.ScoreLemmas.{each_length_ok}
use Rattle.session_edits.proofs.scores.subtotals_told.Goals as goal

pub beside_groups-requires : goal.beside_groups-requires
beside_groups-requires c =
    let m = c.args.model.now in
    ap length c.deref-2.ensures.value
    ∙ each_length_ok (λ g. partial_score m c.args.worths.now c.args.option (criteria_under m g)) (length m.groups) c.in_ok-parts.parts.items c.in_ok-parts.ensures
