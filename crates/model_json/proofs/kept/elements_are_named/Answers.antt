use Rattle.std.proofs.Common.{◌≡◌, ◌+◌, ◌-◌, Some, slice_get, subst, arith}
use Rattle.model_json.specs.Kept.{IsNamed}
use Rattle.model_json.proofs.KeptLemmas.{one_more, all_read}
use Rattle.model_json.proofs.kept.elements_are_named.Goals as goal

pub loop-at-preserved : goal.loop-at-preserved
loop-at-preserved c =
    let same : c.loop-at.at + 1 - 1 ≡ c.loop-at.at = omega arith in
    one_more IsNamed c.args.criterion.now.elements c.loop-at.at c.element.result.now
    (subst (λ i. slice_get c.args.criterion.now.elements i ≡ Some c.element.result.now) same c.element.ensures) c.loop-at.invariant c.as_bytes.ensures.name

pub returns : goal.returns
returns c = all_read IsNamed c.args.criterion.now.elements c.loop-at.at (omega arith) c.loop-at.invariant
