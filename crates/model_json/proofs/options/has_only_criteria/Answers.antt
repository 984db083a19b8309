use Rattle.std.proofs.Common.{◌∙◌}
use Rattle.model_json.proofs.OptionLemmas.{only_criteria}
use Rattle.model_json.proofs.options.has_only_criteria.Goals as goal

pub returns : goal.returns
returns c = c.are_criteria.ensures ∙ only_criteria c.args.model.now c.args.members.now.entries
