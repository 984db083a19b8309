use Rattle.session_edits.specs.Scores.{is_under}
use Rattle.model_core.specs.Finding.{criterion_at, LiesUnder}
use Rattle.session_edits.proofs.ScoreLemmas.{same_truth}
use Rattle.session_edits.proofs.UnderLemmas.{is_under_iff}
use Rattle.session_edits.proofs.scores.is_under.Goals as goal

pub returns : goal.returns
returns c =
    let m = c.args.model.now in
    let group = (criterion_at m c.args.criterion).group in
    same_truth c.under.result (is_under m.groups group c.args.group) (LiesUnder m.groups group c.args.group) c.under.ensures
    (is_under_iff m.groups c.what_a_model_keeps.ensures.groups_are group c.args.group (λ k e. c.what_a_model_keeps.ensures.placed c.args.criterion k e))
