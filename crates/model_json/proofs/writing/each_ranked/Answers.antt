use Rattle.std.proofs.Common.{◌≡◌, ◌+◌, ◌-◌, Some, slice_get, subst, arith}
use Rattle.serde_json.specs.Data.{string}
use Rattle.model_json.specs.Writing.{criterion_name}
use Rattle.model_json.proofs.WritingLemmas.{pushed}
use Rattle.model_json.proofs.writing.each_ranked.Goals as goal

pub loop-at-preserved : goal.loop-at-preserved
loop-at-preserved c =
    let m = c.args.model.now in
    let at = c.loop-at.at in
    let same : at + 1 - 1 ≡ at = omega arith in
    pushed (λ d. string (criterion_name m d)) m.order at c.order.result c.loop-at.values.items c.push.new.self.items c.in_ok-text_value.field-0
    (subst (λ i. slice_get m.order i ≡ Some c.order.result) same c.order.ensures.value) c.in_ok-push.ensures.items
    (rw c.criterion_name-name.ensures at c.in_ok-text_value.ensures) c.loop-at.invariant
