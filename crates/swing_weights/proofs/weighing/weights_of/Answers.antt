use Rattle.std.proofs.Common.{refl, ap, sym, ◌∙◌}
use Rattle.std.proofs.lemmas.Bool.{false≢true}
use Rattle.integers.specs.Fraction.{Fraction}
use Rattle.swing_weights.proofs.WeightLemmas.{all_zero, total_is_not_zero, answered}
use Rattle.swing_weights.proofs.weighing.weights_of.Goals as goal

pub returns-then-is_zero : goal.returns-then-is_zero
returns-then-is_zero c =
    all_zero c.args.values.now c.index-values-0.result c.are_fractions.ensures.positive c.requires
    (ap (λ (f : Fraction). f.num) (sym c.index-values-0.is) ∙ c.if-is_zero.ensures.0 refl)

pub worked-requires-clause-above : goal.worked-requires-clause-above
worked-requires-clause-above c =
    total_is_not_zero c.args.values.now c.index-values-0.result c.are_fractions.ensures.positive c.requires
    (λ is. false≢true (c.if-is_zero.ensures.1 (ap (λ (f : Fraction). f.num) c.index-values-0.is ∙ is)))

pub returns : goal.returns
returns c =
    answered (λ weights. weights.items) c.args.values.now c.index-values-0.result c.worked.result c.are_fractions.ensures.positive c.requires
    (λ is. false≢true (c.if-is_zero.ensures.1 (ap (λ (f : Fraction). f.num) c.index-values-0.is ∙ is))) c.worked.ensures
