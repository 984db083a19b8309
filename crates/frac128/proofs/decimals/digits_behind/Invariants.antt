use Rattle.std.proofs.Common.{◌≡◌, ◌+◌, ◌*◌, ◌^◌, ◌<◌}
use Rattle.frac128.proofs.decimals.digits_behind.Given as goal

abbrev pub invariant-loop-place : goal.invariant-loop-place
invariant-loop-place l = (l.part * l.den + l.left ≡ 10 ^ l.place * l.fn.rest) × (l.left < l.den) × (l.part < 10 ^ l.place)
