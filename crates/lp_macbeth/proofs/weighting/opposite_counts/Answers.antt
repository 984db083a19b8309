use Rattle.std.proofs.Common.{◌≡◌, ◌-◌, ◌+◌, ◌∷◌, [], ◌++◌, pos, neg_ℤ, refl, rules}
use Rattle.integers.proofs.Loops.{push_next}
use Rattle.lp_macbeth.specs.ClosedWeighting.{falling}
use Rattle.lp_macbeth.specs.Gaps.{opposite}
use Rattle.lp_macbeth.proofs.WeightingRowLemmas.{opposite_falling-next, opposite_falling_done}
use Rattle.lp_macbeth.proofs.weighting.opposite_counts.Goals as goal

pub loop-gap-preserved : goal.loop-gap-preserved
loop-gap-preserved c =
    let n = c.args.count in
    let gap = c.loop-gap.gap in
    let items : c.push.new.self.items ≡ c.loop-gap.counts.items ++ neg_ℤ (pos (n - gap)) ∷ [] = search rules in
    push_next c.loop-gap.counts.items (opposite (falling n)) (opposite (falling (n - gap))) (opposite (falling (n - (gap + 1)))) c.push.new.self.items
    (neg_ℤ (pos (n - gap))) c.loop-gap.invariant (opposite_falling-next gap n (neg_ℤ (pos (n - gap))) c.loop-gap-test.true refl) items

pub returns : goal.returns
returns c = opposite_falling_done c.loop-gap.gap c.args.count c.loop-gap.counts.items (opposite (falling c.args.count))
    c.loop-gap-test.false c.loop-gap.invariant
