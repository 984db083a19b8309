use Rattle.std.proofs.Common.{rules}
use Rattle.lp_macbeth.proofs.CoefLemmas.{opposite_pieces}
use Rattle.lp_macbeth.proofs.gaps.push_opposite.Goals as goal

pub returns : goal.returns
returns c = search (rules, opposite_pieces)
