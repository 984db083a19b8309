use Rattle.std.proofs.Common.{arith}
use Rattle.lp_macbeth.specs.Closed.{closed_cost}
use Rattle.lp_macbeth.proofs.ClosedLemmas.{closed_iff, points_at_any_costs, met_in_unit_zero}
use Rattle.lp_macbeth.proofs.laws.closed_points_are_closed_scales.Goals as goal

pub returns : goal.returns
returns c =
    let m = c.args.matrix.now in
    let a = c.args in
    record {
      points = λ x r n. closed_iff m a.good a.neutral a.reach a.a a.b x r n (let h = c.requires in omega arith) c.requires;
      costs = λ cost x n. (
        points_at_any_costs m a.good a.neutral a.reach cost (closed_cost m.size a.a a.b) x n,
        points_at_any_costs m a.good a.neutral a.reach (closed_cost m.size a.a a.b) cost x n,
      );
      units = λ w u nonneg h. met_in_unit_zero m w u nonneg h;
    }
