use Rattle.open_dominance.proofs.OwnLemmas.{closure_of_anchored}
use Rattle.open_dominance.proofs.own_gap.least_gap.Goals as goal

pub gap_apart-requires-clause-some : goal.gap_apart-requires-clause-some
gap_apart-requires-clause-some c = closure_of_anchored c.args.criterion.now c.requires.anchored
