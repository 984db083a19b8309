use Rattle.std.proofs.Common.{◌≡◌, ◌<◌, Some, Ok, sym, subst, ◌∙◌, IfOk, OnOk, OnErr, rules}
use Rattle.value_scale.specs.Slack.{IsSlackOf, IsTooWideToWork}
use Rattle.value_scale.specs.Narrowing.{from_next, checked_slack}
use Rattle.value_scale.specs.declared.slacks.Interval.{Interval}
use Rattle.value_scale.proofs.SlackLemmas.{checked_slack-ok, checked_slack-means, fits_is, too_wide_is, worked_is}
use Rattle.value_scale.proofs.MetLemmas.{values_each}
use Rattle.value_scale.proofs.slacks.slack.Goals as goal

pub bounds-values-element : goal.bounds-values-element
bounds-values-element c =
    let each = values_each c.args.matrix.now c.args.values.now c.are_fractions.ensures.positive c.requires.met in
    let apart : c.args.element < c.args.matrix.now.size = search rules in
    rw each apart

pub with_all_rows-requires-clause-each : goal.with_all_rows-requires-clause-each
with_all_rows-requires-clause-each c = values_each c.args.matrix.now c.args.values.now c.are_fractions.ensures.positive c.requires.met

pub returns-then-element-size-clause-slack : goal.returns-then-element-size-clause-slack
returns-then-element-size-clause-slack c =
    let m = c.args.matrix.now in
    let fs = c.args.values.now in
    let i : Interval = record { low = c.whole.result; high = Some c.whole-then-element-size.result } in
    let worked : checked_slack m fs c.args.element ≡ Ok i = search rules in
    checked_slack-means m fs c.args.element i c.are_fractions.ensures.positive c.requires.met c.requires.element.0 c.requires.element.1 worked

pub returns-clause-fits : goal.returns-clause-fits
returns-clause-fits c =
    let m = c.args.matrix.now in
    let fs = c.args.values.now in
    subst (λ r. OnOk r (¬ IsTooWideToWork m fs c.args.element)) (sym c.with_all_rows.ensures)
    (fits_is m fs c.args.element (from_next c.index-values-element.result))

pub returns-clause-too_wide : goal.returns-clause-too_wide
returns-clause-too_wide c =
    let m = c.args.matrix.now in
    let fs = c.args.values.now in
    let above : c.args.element < m.size = search rules in
    subst (λ r. OnErr r (IsTooWideToWork m fs c.args.element)) (sym c.with_all_rows.ensures)
    (too_wide_is m fs c.args.element (from_next c.index-values-element.result) above)

pub returns-clause-worked : goal.returns-clause-worked
returns-clause-worked c =
    let m = c.args.matrix.now in
    let fs = c.args.values.now in
    let each = values_each m fs c.are_fractions.ensures.positive c.requires.met in
    let above : c.args.element < m.size = search rules in
    c.with_all_rows.ensures
    ∙ worked_is m fs c.args.element c.index-values-element.result (subst (λ n. c.args.element < n) (sym each) above) above c.index-values-element.is

pub returns-clause-slack : goal.returns-clause-slack
returns-clause-slack c =
    let m = c.args.matrix.now in
    let fs = c.args.values.now in
    subst (λ r. IfOk r (IsSlackOf m fs c.args.element)) (sym (returns-clause-worked c))
    (checked_slack-ok m fs c.args.element c.are_fractions.ensures.positive c.requires.met c.requires.element.0 c.requires.element.1)
