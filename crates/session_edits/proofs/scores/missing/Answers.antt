use Rattle.std.proofs.Common.{◌+◌, sym, ◌∙◌}
use Rattle.session_edits.proofs.ScoreLemmas.{of_here, of_next}
use Rattle.session_edits.proofs.scores.missing.Goals as goal

pub returns-in-Some : goal.returns-in-Some
returns-in-Some c =
    sym (of_here c.args.model.now (c.args.first + c.args.count) c.loop-option.option c.in-Some.detail c.loop-option-test.true
    (sym c.in_ok-detail.ensures ∙ c.in-Some.is)) ∙ c.loop-option.invariant

pub loop-option-preserved : goal.loop-option-preserved
loop-option-preserved c =
    sym (of_next c.args.model.now (c.args.first + c.args.count) c.loop-option.option c.loop-option-test.true (sym c.in_ok-detail.ensures ∙ c.in-None.is))
    ∙ c.loop-option.invariant
