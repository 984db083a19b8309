use Rattle.std.proofs.Common.{◌≡◌, ◌++◌, drop}
use Rattle.lp_macbeth.specs.Pairs.{under}
use Rattle.lp_macbeth.proofs.pairs.pairs_under.Given as goal

abbrev pub invariant-loop-pair : goal.invariant-loop-pair
invariant-loop-pair l = l.some.items ++ under l.matrix (drop l.pair-index l.pairs) l.category ≡ under l.matrix l.pairs l.category
