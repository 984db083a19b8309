use Rattle.std.proofs.Common.{ℕ, ◌+◌, ◌-◌, List, ◌∷◌, map, sym, ap, ◌∙◌}
use Rattle.integers.specs.Counting.{numbers_from}
use Rattle.integers.proofs.Loops.{push_next}
use Rattle.lp_macbeth.specs.Pairs.{under}
use Rattle.lp_macbeth.proofs.PairLemmas.{numbers_from-next}
use Rattle.lp_macbeth.proofs.pairs.under_each.Goals as goal

pub loop-category-preserved : goal.loop-category-preserved
loop-category-preserved c =
    let m = c.args.matrix.now in
    let i = c.loop-category.category in
    let list : ℕ → List (ℕ × ℕ) = λ i. under m c.args.pairs.now i in
    push_next c.loop-category.lists.items (map list (numbers_from 0 7)) (map list (numbers_from i (7 - i))) (map list (numbers_from (i + 1) (7 - (i + 1))))
    c.push.new.self.items c.make.result c.loop-category.invariant
    (ap (map list) (numbers_from-next i 7 c.loop-category-test.true)
    ∙ ap (λ z. z ∷ map list (numbers_from (i + 1) (7 - (i + 1)))) (sym (c.make.ensures ∙ c.in_ok-pairs_under.ensures))) c.in_ok-push.ensures.items
