use Rattle.std.proofs.Common.{◌++◌, ◌∙◌, map, ap, sym, subst}
use Rattle.frac128.specs.Problem.{IsProblem}
use Rattle.lp_macbeth.specs.ClosedThreshold.{closed_threshold_row_of}
use Rattle.lp_macbeth.proofs.ClosedThresholdLemmas.{threshold_form_is, IsProblem-threshold_form_of}
use Rattle.lp_macbeth.proofs.closed_form.threshold_form.Goals as goal

pub make-requires-3 : goal.make-requires-3
make-requires-3 c =
    let a = c.args in
    let m = a.matrix.now in
    let row = closed_threshold_row_of m a.further in
    let compared = c.in_ok-push_compared.ensures ∙ ap (λ l. l ++ map row c.as_slice.result.now) c.new-rows.ensures.items
    ∙ ap (map row) (c.as_slice.ensures.value ∙ c.in_ok-tags.ensures.tags) in
    subst IsProblem (sym (threshold_form_is m a.further c.size.result c.make.result a.cost.items a.named.now c.push_compared.new.rows.items c.make-2.result
    c.size.ensures.value (c.make.ensures ∙ c.in_ok-push_copies.ensures) compared (c.make-2.ensures ∙ c.in_ok-push_named.ensures)))
    (IsProblem-threshold_form_of m a.further a.cost.items a.named.now c.size.ensures.matrix c.requires.one_each c.requires.nonneg c.requires.in_range
    c.requires.named)

pub returns : goal.returns
returns c =
    let a = c.args in
    let m = a.matrix.now in
    let row = closed_threshold_row_of m a.further in
    let compared = c.in_ok-push_compared.ensures ∙ ap (λ l. l ++ map row c.as_slice.result.now) c.new-rows.ensures.items
    ∙ ap (map row) (c.as_slice.ensures.value ∙ c.in_ok-tags.ensures.tags) in
    c.make-3.ensures
    ∙ threshold_form_is m a.further c.size.result c.make.result a.cost.items a.named.now c.push_compared.new.rows.items c.make-2.result
    c.size.ensures.value (c.make.ensures ∙ c.in_ok-push_copies.ensures) compared (c.make-2.ensures ∙ c.in_ok-push_named.ensures)
