use Rattle.std.specs.Ordering.{int_cmp}
use Rattle.std.proofs.Common.{rules, ◌≡◌, ◌≢◌, pos, ◌+ℤ◌, ◌*ℤ◌, ◌<ℤ◌, ap, ◌∙◌}
use Rattle.frac128.proofs.Euclid.{turned, floors_decide, left_decides, right_decides}
use Rattle.frac128.proofs.order.compare_by_steps.Goals.{then-eq-via-then-eq, then-eq-via-else-eq+then-eq-2}
use Rattle.frac128.proofs.order.compare_by_steps.Goals as goal

-- the whole parts differ
pub returns-then-ne : goal.returns-then-ne
returns-then-ne c =
    let l = c.loop-under_left in
    let first = c.divide-first in
    let second = c.divide-second in
    let differ : first.result.floor ≢ second.result.floor = search rules in
    let decides : c.cmp.result ≡ int_cmp first.result.floor second.result.floor = search rules in
    decides ∙ floors_decide l.left l.under_left l.right l.under_right first.result.floor second.result.floor first.result.rest second.result.rest
    first.ensures.whole second.ensures.whole l.invariant.0 l.invariant.1 first.ensures.rest.0 first.ensures.rest.1 second.ensures.rest.0
    second.ensures.rest.1 differ ∙ l.invariant.2

-- a rest is 0
pub returns-then-eq : goal.returns-then-eq
returns-then-eq c =
    let l = c.loop-under_left in
    let first = c.divide-first in
    let second = c.divide-second in
    let one : first.result.floor ≡ second.result.floor = search rules in
    let whole : l.left ≡ second.result.floor *ℤ l.under_left +ℤ first.result.rest =
    first.ensures.whole ∙ ap (λ z. z *ℤ l.under_left +ℤ first.result.rest) one in
    let decides : c.cmp-then-eq.result ≡ int_cmp first.result.rest second.result.rest = search rules in
    decides ∙ elim c.then-eq.branch [
      | then-eq-via-then-eq w ↦
          let none : first.result.rest ≡ pos 0 = search rules in
          left_decides l.left l.under_left l.right l.under_right second.result.floor first.result.rest second.result.rest whole second.ensures.whole
          l.invariant.0 l.invariant.1 second.ensures.rest.0 none
      | then-eq-via-else-eq+then-eq-2 w ↦
          let none : second.result.rest ≡ pos 0 = search rules in
          right_decides l.left l.under_left l.right l.under_right second.result.floor first.result.rest second.result.rest whole second.ensures.whole
          l.invariant.0 l.invariant.1 first.ensures.rest.0 none
    ] ∙ l.invariant.2

-- the fractions turned over
pub loop-under_left-preserved : goal.loop-under_left-preserved
loop-under_left-preserved c =
    let l = c.loop-under_left in
    let first = c.divide-first in
    let second = c.divide-second in
    let one : first.result.floor ≡ second.result.floor = search rules in
    let whole : l.left ≡ second.result.floor *ℤ l.under_left +ℤ first.result.rest =
    first.ensures.whole ∙ ap (λ z. z *ℤ l.under_left +ℤ first.result.rest) one in
    let left : pos 0 <ℤ second.result.rest = search rules in
    let right : pos 0 <ℤ first.result.rest = search rules in (
      left,
      right,
      turned l.left l.under_left l.right l.under_right second.result.floor first.result.rest second.result.rest whole
          second.ensures.whole ∙ l.invariant.2,
    )
