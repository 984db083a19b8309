use Rattle.std.proofs.Common.{◌≡◌, ◌+◌, ◌-◌, Some, slice_get, subst, arith}
use Rattle.serde_json.specs.Data.{string}
use Rattle.model_json.proofs.WritingLemmas.{pushed}
use Rattle.model_json.proofs.values.each_element.Goals as goal

pub loop-at-preserved : goal.loop-at-preserved
loop-at-preserved c =
    let names = c.args.criterion.now.elements in
    let at = c.loop-at.at in
    let same : at + 1 - 1 ≡ at = omega arith in
    pushed string names at c.element.result.now c.loop-at.values.items c.push.new.self.items c.in_ok-text_value.field-0
    (subst (λ i. slice_get names i ≡ Some c.element.result.now) same c.element.ensures) c.in_ok-push.ensures.items
    (rw c.as_str-name.ensures at c.in_ok-text_value.ensures) c.loop-at.invariant
