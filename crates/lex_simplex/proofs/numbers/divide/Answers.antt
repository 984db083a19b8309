use Rattle.std.proofs.Common.{◌≡◌, pos, rules, int_div, sym, ap, ◌∙◌}
use Rattle.integers.specs.Divisibility.{quotients}
use Rattle.integers.proofs.Divisibility.{quotients-one}
use Rattle.integers.proofs.Loops.{map_front-next}
use Rattle.lex_simplex.proofs.numbers.divide.Goals as goal

pub returns-then-eq : goal.returns-then-eq
returns-then-eq c =
    let one : c.args.divisor ≡ pos 1 = search rules in
    sym (ap (quotients c.args.numbers.now) one ∙ quotients-one c.args.numbers.now)

pub loop-i-preserved : goal.loop-i-preserved
loop-i-preserved c = map_front-next (λ x. int_div x c.args.divisor) c.args.numbers.now c.loop-i.numbers c.loop-i.i c.index-numbers-i.result
    c.quotient.result c.loop-i-test.true c.loop-i.invariant c.index-numbers-i.is c.quotient.ensures
