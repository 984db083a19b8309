use Rattle.std.proofs.Common.{◌∙◌, ℕ, ap, subst, sym}
use Rattle.lp_macbeth.specs.Closed.{closed_cost}
use Rattle.lp_macbeth.proofs.ClosedRowLemmas.{IsCost, IsCost-closed}
use Rattle.lp_macbeth.proofs.closed_form.closed_thresholds.Goals as goal

pub closed_thresholds_with-requires : goal.closed_thresholds_with-requires
closed_thresholds_with-requires c =
    let a = c.args in
    let n : ℕ = c.args.matrix.now.size in
    let is = c.in_ok-cost.ensures ∙ ap (λ s. closed_cost s a.a a.b) c.size.ensures.value in
    let cost = subst (IsCost n) (sym is) (IsCost-closed n a.a a.b c.requires.apart c.requires.a c.requires.b) in
    record {
      references = c.requires.references;
      most = c.requires.most;
      one_each = cost.one_each;
      nonneg = cost.nonneg;
      in_range = cost.in_range;
    }
