use Rattle.std.proofs.Common.{length, ap, sym, ◌∙◌}
use Rattle.session_edits.specs.Scores.{score_of}
use Rattle.session_edits.proofs.ScoreLemmas.{each_length_ok}
use Rattle.session_edits.proofs.scores.scores_told.Goals as goal

pub returns-clause-printable : goal.returns-clause-printable
returns-clause-printable c =
    each_length_ok (score_of c.args.model.now c.args.worths.now) (length c.args.model.now.options) c.in_ok-values.values c.in_ok-values.ensures
    ∙ ap length (sym c.in_ok-names.ensures)
