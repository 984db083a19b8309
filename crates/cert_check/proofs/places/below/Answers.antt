use Rattle.std.proofs.Common.{ℕ, ◌<◌, ◌≤◌, ◌+◌, ◌-◌, ◌/◌, get_or, rules, arith}
use Rattle.judgement_matrix.specs.declared.tag.Tag.TheVariants.{Lower}
use Rattle.cert_check.specs.Places.{rank}
use Rattle.cert_check.proofs.PlaceLemmas.{half-lower, half-higher}
use Rattle.cert_check.proofs.places.below.Goals as goal

pub loop-low-preserved-then-rank-number : goal.loop-low-preserved-then-rank-number
loop-low-preserved-then-rank-number c =
    let here = c.loop-low in
    let tags = c.args.tags.now in
    let middle : ℕ = here.low + (here.high - here.low) / 2 in
    let lower : rank (get_or tags middle (Lower 0 0)) < c.args.number = search rules in
    record {
      most = here.invariant.most;
      apart = omega (arith, c.loop-low-test.true);
      below = half-lower tags c.args.number middle c.requires (omega (arith, c.loop-low-test.true, here.invariant.most)) lower;
      rest = here.invariant.rest;
    }

pub loop-low-preserved : goal.loop-low-preserved
loop-low-preserved c =
    let here = c.loop-low in
    let tags = c.args.tags.now in
    let middle : ℕ = here.low + (here.high - here.low) / 2 in
    let higher : c.args.number ≤ rank (get_or tags middle (Lower 0 0)) = search rules in
    record {
      most = omega (arith, c.loop-low-test.true, here.invariant.most);
      apart = omega (arith, c.loop-low-test.true);
      below = here.invariant.below;
      rest = half-higher tags c.args.number middle c.requires higher;
    }
