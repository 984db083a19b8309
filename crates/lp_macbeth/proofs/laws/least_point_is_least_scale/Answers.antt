use Rattle.lp_macbeth.proofs.LeastLemmas.{smaller_iff_before, least_iff_least}
use Rattle.lp_macbeth.proofs.ScaleLemmas.{infeasible_iff_inconsistent}
use Rattle.lp_macbeth.proofs.laws.least_point_is_least_scale.Goals as goal

pub returns : goal.returns
returns c = record {
  order = λ x n y k first second. smaller_iff_before c.args.matrix.now x n y k c.requires first.one_each second.one_each;
  least = λ x n. least_iff_least c.args.matrix.now x n c.requires;
  nothing = infeasible_iff_inconsistent c.args.matrix.now c.requires;
}
