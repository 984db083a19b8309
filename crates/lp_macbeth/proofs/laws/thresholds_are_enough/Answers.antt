use Rattle.lp_macbeth.specs.Gaps.{scale_of}
use Rattle.lp_macbeth.proofs.CutLemmas.{feasible_cut, feasible_extended, least_cut, least_scale, infeasible_iff}
use Rattle.lp_macbeth.proofs.ThresholdLemmas.{cuts}
use Rattle.lp_macbeth.proofs.laws.thresholds_are_enough.Goals as goal

pub returns : goal.returns
returns c =
    let m = c.args.matrix.now in
    let matrix = c.size.ensures.matrix in
    record {
      cut = λ z n h. feasible_cut m z n matrix c.requires h;
      extended = λ x n h. (cuts m (scale_of x) n, feasible_extended m x n matrix c.requires h);
      least = λ z n h. least_cut m z n matrix c.requires h;
      scale = λ z n h. least_scale m z n matrix c.requires h;
      nothing = infeasible_iff m matrix c.requires;
    }
