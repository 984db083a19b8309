use Rattle.std.proofs.Common.{ℕ, ◌<◌, ◌≤◌, ◌-◌, length, get_or}
use Rattle.judgement_matrix.specs.declared.tag.Tag.TheVariants.{Lower}
use Rattle.cert_check.specs.Places.{rank}
use Rattle.cert_check.proofs.places.below.Given as goal

abbrev pub invariant-loop-low : goal.invariant-loop-low
invariant-loop-low l = record {
  most : l.high ≤ length l.tags;
  apart : l.low ≤ l.high;
  below : (k : ℕ) → k < l.low → rank (get_or l.tags k (Lower 0 0)) < l.number;
  rest : (k : ℕ) → l.high ≤ k → k < length l.tags → l.number ≤ rank (get_or l.tags k (Lower 0 0));
}

abbrev pub decreases-loop-low : goal.decreases-loop-low
decreases-loop-low l = l.high - l.low
