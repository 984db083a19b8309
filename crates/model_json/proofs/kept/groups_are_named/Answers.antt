use Rattle.std.proofs.Common.{arith}
use Rattle.model_json.specs.Kept.{IsNamed}
use Rattle.model_json.proofs.KeptLemmas.{one_more, all_read}
use Rattle.model_json.proofs.kept.groups_are_named.Goals as goal

pub loop-at-preserved : goal.loop-at-preserved
loop-at-preserved c = one_more (λ group. IsNamed group.name) c.args.model.now.groups c.loop-at.at c.group.result.now c.group.ensures.group c.loop-at.invariant
    (rw c.name.ensures at c.as_bytes.ensures.name)

pub returns : goal.returns
returns c = all_read (λ group. IsNamed group.name) c.args.model.now.groups c.loop-at.at (omega arith) c.loop-at.invariant
