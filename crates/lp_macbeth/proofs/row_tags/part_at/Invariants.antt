use Rattle.std.proofs.Common.{◌≡◌, ◌+◌, ◌-◌, ◌<◌, length, sum, take, drop}
use Rattle.lp_macbeth.proofs.row_tags.part_at.Given as goal

abbrev pub invariant-loop-place : goal.invariant-loop-place
invariant-loop-place l = record {
  before : sum (take l.place l.lengths) + l.left_over ≡ l.position;
  inside : l.place < length l.lengths;
  rest : l.left_over < sum (drop l.place l.lengths);
}

abbrev pub decreases-loop-place : goal.decreases-loop-place
decreases-loop-place l = length l.lengths - l.place
