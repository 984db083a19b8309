use Rattle.std.proofs.Common.{arith}
use Rattle.model_json.specs.Kept.{IsNamed}
use Rattle.model_json.proofs.KeptLemmas.{one_more, all_read}
use Rattle.model_json.proofs.kept.options_are_named.Goals as goal

pub loop-at-preserved : goal.loop-at-preserved
loop-at-preserved c = one_more IsNamed c.args.model.now.options c.loop-at.at c.option.result.now c.option.ensures c.loop-at.invariant c.as_bytes.ensures.name

pub returns : goal.returns
returns c = all_read IsNamed c.args.model.now.options c.loop-at.at (omega arith) c.loop-at.invariant
