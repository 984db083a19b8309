use Rattle.std.proofs.Common.{◌≡◌, ◌++◌, ◌-◌, replicate}
use Rattle.lp_macbeth.proofs.gaps.push_copies.Given as goal

abbrev pub invariant-loop-place : goal.invariant-loop-place
invariant-loop-place l = l.coefs.items ++ replicate (l.fn.count - l._place) l.fn.value ≡ l.fn.coefs.items ++ replicate l.fn.count l.fn.value
