use Rattle.std.proofs.Common.{◌∙◌}
use Rattle.model_json.proofs.KeyLemmas.{all_keys}
use Rattle.model_json.proofs.steps.has_only.Goals as goal

pub returns : goal.returns
returns c = c.are_among.ensures ∙ all_keys c.args.keys.now c.args.members.now.entries
