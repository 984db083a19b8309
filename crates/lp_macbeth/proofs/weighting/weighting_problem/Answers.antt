use Rattle.std.proofs.Common.{◌≡◌, ◌-◌, ◌≤◌, ℕ, length, ap, subst, sym, ◌∙◌, All, arith}
use Rattle.frac128.specs.Problem.{IsRow}
use Rattle.integers.specs.Vector.{AreNonNegative}
use Rattle.frac128.specs.Range.{IsInRange}
use Rattle.lp_macbeth.proofs.WeightingRowLemmas.{sums_fit}
use Rattle.lp_macbeth.proofs.weighting.weighting_problem.Goals as goal

pub make-requires-3 : goal.make-requires-3
make-requires-3 c =
    let n : ℕ = c.size-vars.result in
    let size : n ≡ c.args.matrix.now.size = c.size-vars.ensures.value in
    let compared : All (IsRow (n - 1)) c.push_compared.new.rows.items =
    subst (λ s. All (IsRow (s - 1)) c.push_compared.new.rows.items) (sym size) c.in_ok-push_compared.ensures.fit in
    let most : n - 1 ≤ 1000000 = omega (arith, c.size-vars.ensures.most) in
    let all = subst (All (IsRow (n - 1))) (sym c.in_ok-push_sums.ensures) (sums_fit (n - 1) c.push_compared.new.rows.items most compared) in
    record {
      one_each = ap length c.make.ensures ∙ c.requires.one_each ∙ ap (λ s. s - 1) (sym size);
      cost_nonneg = subst AreNonNegative (sym c.make.ensures) c.requires.nonneg;
      cost_in_range = subst (All IsInRange) (sym c.make.ensures) c.requires.in_range;
      rows_fit = subst (All (IsRow (n - 1))) (sym c.make-2.ensures) all;
    }
