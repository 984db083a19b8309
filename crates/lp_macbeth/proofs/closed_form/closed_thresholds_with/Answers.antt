use Rattle.std.specs.Result.{IfOk}
use Rattle.std.proofs.Common.{◌≡◌, ◌∙◌, ◌+◌, ◌-◌, List, subst, sym, All, arith}
use Rattle.frac128.specs.Problem.{IsRow}
use Rattle.frac128.specs.declared.problem.Row.{Row}
use Rattle.lp_macbeth.specs.ClosedThreshold.{threshold_form_of}
use Rattle.lp_macbeth.proofs.ClosedRowLemmas.{anchored_rows_fit, anchored_rows_are}
use Rattle.lp_macbeth.proofs.closed_form.closed_thresholds_with.Goals as goal

pub threshold_form-requires : goal.threshold_form-requires
threshold_form-requires c =
    let a = c.args in
    let m = a.matrix.now in
    let is = anchored_rows_are m.size a.good a.neutral a.reach c.size-n.result c.new-named.result.items c.push_anchors.new.rows.items c.as_slice.result.now
    c.size-n.ensures.value c.new-named.ensures.items c.in_ok-push_anchors.ensures (c.as_slice.ensures.value ∙ c.in_ok-push_reaches.ensures) in
    let vars : m.size ≡ m.size - 1 + 1 = omega (arith, c.requires.references) in
    record {
      few = omega arith;
      one_each = c.requires.one_each ∙ vars;
      nonneg = c.requires.nonneg;
      in_range = c.requires.in_range;
      named = subst (λ v. All (IsRow v) c.as_slice.result.now) vars
          (subst (All (IsRow m.size)) (sym is) (anchored_rows_fit m.size a.good a.neutral a.reach c.requires.references c.requires.most));
    }

pub returns : goal.returns
returns c =
    let a = c.args in
    let m = a.matrix.now in
    let is = anchored_rows_are m.size a.good a.neutral a.reach c.size-n.result c.new-named.result.items c.push_anchors.new.rows.items c.as_slice.result.now
    c.size-n.ensures.value c.new-named.ensures.items c.in_ok-push_anchors.ensures (c.as_slice.ensures.value ∙ c.in_ok-push_reaches.ensures) in
    subst (λ (rows : List Row). IfOk c.threshold_form.result (λ problem. problem ≡ threshold_form_of m 1 a.cost.items rows)) is c.threshold_form.ensures
