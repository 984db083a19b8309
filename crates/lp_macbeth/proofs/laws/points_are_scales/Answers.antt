use Rattle.std.proofs.Common.{arith}
use Rattle.lp_macbeth.proofs.GapLemmas.{gaps_of-scale_of}
use Rattle.lp_macbeth.proofs.ScaleLemmas.{feasible_iff_met, scale_is}
use Rattle.lp_macbeth.proofs.laws.points_are_scales.Goals as goal

pub returns : goal.returns
returns c = record {
  points = λ x n. feasible_iff_met c.args.matrix.now x n c.requires;
  scales = λ w n h. scale_is c.args.matrix.now w n (omega (arith, c.requires)) h;
  gaps = gaps_of-scale_of;
}
