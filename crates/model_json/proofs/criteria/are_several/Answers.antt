use Rattle.std.proofs.Common.{◌∙◌}
use Rattle.model_json.proofs.CriterionLemmas.{second}
use Rattle.model_json.proofs.criteria.are_several.Goals as goal

pub returns-clause-value : goal.returns-clause-value
returns-clause-value c = c.is_some.ensures ∙ c.get.ensures.lookup.0 ∙ second c.args.values.now
