use Rattle.session_edits.proofs.RefusalLemmas.{refusal_keeps}
use Rattle.session_edits.proofs.laws.refusals_keep_the_model.Goals as goal

pub returns : goal.returns
returns c = λ s next command number detail h. let k = refusal_keeps s next number detail command h in (k.model, k.history)
