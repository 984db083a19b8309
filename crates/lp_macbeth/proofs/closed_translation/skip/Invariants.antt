use Rattle.std.proofs.Common.{◌≡◌, ◌-◌, drop}
use Rattle.lp_macbeth.proofs.closed_translation.skip.Given as goal

abbrev pub invariant-loop-place : goal.invariant-loop-place
invariant-loop-place l = drop (l.count - l._place) l.supply ≡ drop l.count l.fn.supply
