use Rattle.std.proofs.Common.{◌≡◌, ◌<◌, ◌∙◌, true, inl, inr, pos, All, refl, sym, ap, subst}
use Rattle.integers.specs.Fraction.{fraction_of}
use Rattle.open_dominance.specs.Test.{sums_stay, is_above_by_sums, is_below_by_weights}
use Rattle.open_dominance.proofs.TestLemmas.{some_weighting, above_by_sums, below_by_weights, above_by_minimum}
use Rattle.open_dominance.proofs.test.is_never_below.Goals as goal

pub returns-then-sums_stay-clause-tested : goal.returns-then-sums_stay-clause-tested
returns-then-sums_stay-clause-tested c =
    let a = c.args in
    let above : is_above_by_sums a.order.now a.gaps.now ≡ true =
    ap (sums_stay (fraction_of (pos 0))) (sym (c.deref.ensures.value ∙ c.in_ok-ordered.ensures)) ∙ sym c.sums_stay.ensures ∙ c.if-sums_stay.true in (
      (λ t. above_by_sums a.matrix.now a.order.now a.gaps.now c.are_fractions.ensures.positive c.requires.order.within above, λ never. refl),
      inl (inl above),
    )

pub returns-then-is_below_by_weights-clause-tested : goal.returns-then-is_below_by_weights-clause-tested
returns-then-is_below_by_weights-clause-tested c =
    let a = c.args in
    let below : is_below_by_weights a.weights.now a.gaps.now ≡ true = sym c.is_below_by_weights.ensures ∙ c.if-is_below_by_weights.true in (
      (
        λ t. absurd (let e = t in cc),
        λ never. absurd (below_by_weights a.matrix.now a.order.now a.weights.now a.gaps.now c.are_fractions-2.ensures.positive
            c.are_fractions.ensures.positive c.requires.one_each c.requires.order c.requires.weights below never),
      ),
      inl (inr below),
    )

pub weighting_minimum-requires-clause-some : goal.weighting_minimum-requires-clause-some
weighting_minimum-requires-clause-some c =
    let a = c.args in
    some_weighting a.matrix.now a.order.now a.weights.now c.are_fractions-2.ensures.positive
    (subst (λ n. All (λ c. c < n) a.order.now) (sym c.requires.one_each) c.requires.order.within) c.requires.weights

pub returns-in-Ok-clause-tested : goal.returns-in-Ok-clause-tested
returns-in-Ok-clause-tested c =
    let a = c.args in
    let by = c.in-Ok.ensures.found.1.1.1 in
    let same = above_by_minimum a.matrix.now a.order.now a.gaps.now c.in-Ok.minimum.least c.in-Ok.minimum.weights c.are_fractions.ensures.positive
    c.requires.order.within by.least_reduced.0 by.means in
    ((λ t. same.0 (c.is_not_below_zero.ensures.0 t), λ never. c.is_not_below_zero.ensures.1 (same.1 never)), inr (c.in-Ok.minimum, c.in-Ok.ensures.found))
