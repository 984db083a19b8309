use Rattle.std.proofs.Common.{rules, ◌≡◌, ◌++◌, ◌∷◌, [], ◌-◌, ◌+◌, pos}
use Rattle.integers.proofs.Loops.{push_next}
use Rattle.lp_macbeth.specs.ClosedWeighting.{falling}
use Rattle.lp_macbeth.proofs.WeightingRowLemmas.{falling-next, falling_done}
use Rattle.lp_macbeth.proofs.weighting.counts.Goals as goal

pub loop-gap-preserved : goal.loop-gap-preserved
loop-gap-preserved c =
    let items : c.push.new.self.items ≡ c.loop-gap.counts.items ++ pos (c.args.count - c.loop-gap.gap) ∷ [] = search rules in
    push_next c.loop-gap.counts.items (falling c.args.count) (falling (c.args.count - c.loop-gap.gap)) (falling (c.args.count - (c.loop-gap.gap + 1)))
    c.push.new.self.items (pos (c.args.count - c.loop-gap.gap))
    c.loop-gap.invariant (falling-next c.loop-gap.gap c.args.count c.loop-gap-test.true) items

pub returns : goal.returns
returns c = falling_done c.loop-gap.gap c.args.count c.loop-gap.counts.items (falling c.args.count) c.loop-gap-test.false c.loop-gap.invariant
