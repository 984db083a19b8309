use Rattle.std.proofs.Common.{All, subst, arith}
use Rattle.std.proofs.lemmas.List.{take_all}
use Rattle.std.proofs.lemmas.List.Elements.{All-more, All-weaker}
use Rattle.integers.specs.Fraction.{IsFraction}
use Rattle.frac128.specs.Frac.{IsReduced}
use Rattle.frac128.proofs.laws.are_fractions.Goals as goal

pub loop-fraction-preserved : goal.loop-fraction-preserved
loop-fraction-preserved c =
    All-more IsReduced c.args.fractions.now c.loop-fraction.fraction-index c.fraction-item.result c.loop-fraction-test.true c.loop-fraction.invariant
    (subst IsReduced c.fraction-item.is (c.den.ensures.positive, c.den.ensures.lowest))

pub returns : goal.returns
returns c =
    let all = subst (All IsReduced) (take_all c.loop-fraction.fraction-index c.args.fractions.now (omega arith)) c.loop-fraction.invariant in
    record { positive = All-weaker IsReduced IsFraction (λ f h. h.0) c.args.fractions.now all; lowest = all }
