use Rattle.std.proofs.Common.{◌≡◌, ◌++◌, ◌+◌, ◌-◌, map}
use Rattle.std.specs.List.{range_with_len}
use Rattle.lp_macbeth.specs.Pairs.{row}
use Rattle.lp_macbeth.proofs.pairs.push_row.Given as goal

abbrev pub invariant-loop-q : goal.invariant-loop-q
invariant-loop-q l = l.pairs.items ++ map (λ q. (l.fn.p, q)) (range_with_len l.q (l.fn.n + 1 - l.q)) ≡ l.fn.pairs.items ++ row l.fn.n l.fn.p
