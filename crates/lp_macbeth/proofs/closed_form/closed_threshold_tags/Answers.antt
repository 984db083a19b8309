use Rattle.std.proofs.Common.{◌≡◌, ◌∙◌, ap, subst, sym, rules, All}
use Rattle.judgement_matrix.specs.Matrix.{pairs}
use Rattle.lp_macbeth.specs.Pairs.{ArePairs}
use Rattle.lp_macbeth.specs.Threshold.{IsThresholdTagOf}
use Rattle.lp_macbeth.specs.ClosedThreshold.{closed_threshold_rows}
use Rattle.lp_macbeth.proofs.PairLemmas.{ArePairs-pairs}
use Rattle.lp_macbeth.proofs.ClosedThresholdLemmas.{All-closed_threshold_rows}
use Rattle.lp_macbeth.proofs.closed_form.closed_threshold_tags.Goals as goal

pub push_high-requires : goal.push_high-requires
push_high-requires c =
    let n = c.args.matrix.now.size in
    subst (ArePairs n) (sym (c.as_slice.ensures.value ∙ c.in_ok-pairs.ensures ∙ ap pairs c.size.ensures.value)) (ArePairs-pairs n)

pub push_equal-requires : goal.push_equal-requires
push_equal-requires c =
    let n = c.args.matrix.now.size in
    subst (ArePairs n) (sym (c.as_slice-2.ensures.value ∙ c.in_ok-pairs.ensures ∙ ap pairs c.size.ensures.value)) (ArePairs-pairs n)

pub push_below-requires : goal.push_below-requires
push_below-requires c =
    let n = c.args.matrix.now.size in
    subst (ArePairs n) (sym (c.as_slice-3.ensures.value ∙ c.in_ok-pairs.ensures ∙ ap pairs c.size.ensures.value)) (ArePairs-pairs n)

pub returns-clause-among : goal.returns-clause-among
returns-clause-among c =
    let is : c.push_steps.new.tags.items ≡ closed_threshold_rows c.args.matrix.now = search rules in
    subst (All (IsThresholdTagOf c.args.matrix.now)) (sym is) (All-closed_threshold_rows c.args.matrix.now)
