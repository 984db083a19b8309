use Rattle.std.proofs.Common.{◌-◌, ◌++◌, ◌∙◌, map, replicate, pos, All, ap, sym, subst}
use Rattle.frac128.specs.Problem.{IsProblem}
use Rattle.lp_macbeth.specs.Threshold.{threshold_row_of, IsThresholdTagOf}
use Rattle.lp_macbeth.proofs.ThresholdProblemLemmas.{threshold_problem_is, IsProblem-threshold_problem_of}
use Rattle.lp_macbeth.proofs.threshold.threshold_problem.Goals as goal

pub make-requires-2 : goal.make-requires-2
make-requires-2 c =
    let m = c.args.matrix.now in
    let n = c.size-gaps.result in
    let cost = c.make.ensures ∙ c.in_ok-push_copies-2.ensures
    ∙ ap (λ l. l ++ replicate 5 (pos 0)) (c.in_ok-push_copies.ensures ∙ ap (λ l. l ++ replicate (n - 1) (pos 1)) c.new-cost.ensures.items) in
    let rows = c.in_ok-rows.ensures.rows ∙ ap (map (threshold_row_of m)) (c.as_slice.ensures.value ∙ c.in_ok-tags.ensures.tags) in
    subst IsProblem (sym (threshold_problem_is m n c.make.result c.in_ok-rows.rows c.size-gaps.ensures.value cost rows))
    (IsProblem-threshold_problem_of m c.size-gaps.ensures.matrix)

pub returns : goal.returns
returns c =
    let m = c.args.matrix.now in
    let n = c.size-gaps.result in
    let cost = c.make.ensures ∙ c.in_ok-push_copies-2.ensures
    ∙ ap (λ l. l ++ replicate 5 (pos 0)) (c.in_ok-push_copies.ensures ∙ ap (λ l. l ++ replicate (n - 1) (pos 1)) c.new-cost.ensures.items) in
    let rows = c.in_ok-rows.ensures.rows ∙ ap (map (threshold_row_of m)) (c.as_slice.ensures.value ∙ c.in_ok-tags.ensures.tags) in
    c.make-2.ensures ∙ threshold_problem_is m n c.make.result c.in_ok-rows.rows c.size-gaps.ensures.value cost rows

pub rows_of-requires : goal.rows_of-requires
rows_of-requires c = subst (All (IsThresholdTagOf c.args.matrix.now)) (sym c.as_slice.ensures.value) c.in_ok-tags.ensures.among
