use Rattle.std.proofs.Common.{◌≡◌, ℕ, ◌++◌, ◌-◌, map}
use Rattle.integers.specs.Counting.{numbers_from}
use Rattle.lp_macbeth.specs.Pairs.{under}
use Rattle.lp_macbeth.proofs.pairs.under_each.Given as goal

abbrev pub invariant-loop-category : goal.invariant-loop-category
invariant-loop-category l = l.lists.items ++ map (λ (i : ℕ). under l.matrix l.pairs i) (numbers_from l.category (7 - l.category)) ≡ map
    (λ (i : ℕ). under l.matrix l.pairs i) (numbers_from 0 7)
