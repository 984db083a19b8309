use Rattle.std.proofs.Common.{◌++◌, ◌∷◌, [], Some, ap, sym, ◌∙◌}
use Rattle.model_core.proofs.RosterLemmas.{take-more}
use Rattle.session_edits.proofs.scores.option_names.Goals as goal

pub loop-option-preserved : goal.loop-option-preserved
loop-option-preserved c =
    c.in_ok-push.ensures.items ∙ ap (λ l. l ++ c.in_ok-copy.field-0 ∷ []) c.loop-option.invariant
    ∙ sym (take-more c.args.model.now.options c.loop-option.option c.in_ok-copy.field-0 (c.option.ensures ∙ ap Some (sym c.in_ok-copy.ensures)))
