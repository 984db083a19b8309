use Rattle.lp_macbeth.specs.Closed.{closed_cost}
use Rattle.lp_macbeth.proofs.ClosedFormLemmas.{closed_thresholds_are}
use Rattle.lp_macbeth.proofs.ClosedRowLemmas.{IsCost-closed}
use Rattle.lp_macbeth.proofs.laws.closed_thresholds_are_enough.Goals as goal

pub returns : goal.returns
returns c =
    let args = c.args in
    let m = args.matrix.now in
    let matrix = c.size.ensures.matrix in
    record {
      costs = λ cost each. closed_thresholds_are m args.good args.neutral args.reach cost matrix c.requires each;
      difference = λ a b h. closed_thresholds_are m args.good args.neutral args.reach (closed_cost m.size a b) matrix c.requires
          (IsCost-closed m.size a b h.apart h.first h.second).one_each;
      one_each = λ a b h. (IsCost-closed m.size a b h.apart h.first h.second).one_each;
    }
