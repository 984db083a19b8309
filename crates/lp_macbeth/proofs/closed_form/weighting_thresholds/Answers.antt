use Rattle.std.specs.Result.{IfOk}
use Rattle.std.proofs.Common.{◌≡◌, ◌≤◌, ◌++◌, [], ◌∙◌, ◌+◌, ◌-◌, ℕ, List, ap, subst, sym, All, arith}
use Rattle.std.proofs.lemmas.List.Elements.{All-nil}
use Rattle.frac128.specs.Problem.{IsRow}
use Rattle.frac128.specs.declared.problem.Row.{Row}
use Rattle.lp_macbeth.specs.ClosedWeighting.{sum_rows}
use Rattle.lp_macbeth.specs.ClosedThreshold.{threshold_form_of}
use Rattle.lp_macbeth.proofs.WeightingRowLemmas.{sums_fit}
use Rattle.lp_macbeth.proofs.closed_form.weighting_thresholds.Goals as goal

pub threshold_form-requires : goal.threshold_form-requires
threshold_form-requires c =
    let m = c.args.matrix.now in
    let k : ℕ = m.size - 1 in
    let is = c.as_slice.ensures.value ∙ c.in_ok-push_sums.ensures ∙ ap (λ l. l ++ sum_rows (c.size.result - 1)) c.new-named.ensures.items
    ∙ ap (λ s. sum_rows (s - 1)) c.size.ensures.value in
    let most : k ≤ 1000000 = omega (arith, c.size.ensures.most, c.size.ensures.value) in
    let vars : k ≡ k + 0 = omega arith in
    record {
      few = omega arith;
      one_each = c.requires.one_each ∙ vars;
      nonneg = c.requires.nonneg;
      in_range = c.requires.in_range;
      named = subst (λ v. All (IsRow v) c.as_slice.result.now) vars (subst (All (IsRow k)) (sym is) (sums_fit k [] most (All-nil (IsRow k))));
    }

pub returns : goal.returns
returns c =
    let a = c.args in
    let m = a.matrix.now in
    let is = c.as_slice.ensures.value ∙ c.in_ok-push_sums.ensures ∙ ap (λ l. l ++ sum_rows (c.size.result - 1)) c.new-named.ensures.items
    ∙ ap (λ s. sum_rows (s - 1)) c.size.ensures.value in
    subst (λ (rows : List Row). IfOk c.threshold_form.result (λ problem. problem ≡ threshold_form_of m 0 a.cost.items rows)) is c.threshold_form.ensures
