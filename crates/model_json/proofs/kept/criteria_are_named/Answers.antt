use Rattle.std.proofs.Common.{arith}
use Rattle.model_json.specs.Kept.{IsNamedCriterion}
use Rattle.model_json.proofs.KeptLemmas.{one_more, all_read}
use Rattle.model_json.proofs.kept.criteria_are_named.Goals as goal

pub loop-at-preserved : goal.loop-at-preserved
loop-at-preserved c =
    one_more IsNamedCriterion c.args.model.now.criteria c.loop-at.at c.criterion.result.now c.criterion.ensures.criterion
    c.loop-at.invariant c.criterion_is_named.ensures

pub returns : goal.returns
returns c = all_read IsNamedCriterion c.args.model.now.criteria c.loop-at.at (omega arith) c.loop-at.invariant
