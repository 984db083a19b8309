use Rattle.std.proofs.Common.{◌∙◌, ap}
use Rattle.integers.specs.Divisibility.{quotients}
use Rattle.integers.proofs.Divisibility.{divisor-is, divisor_of_first}
use Rattle.lex_simplex.proofs.numbers.reduce.Goals as goal

pub divide-requires : goal.divide-requires
divide-requires c = divisor_of_first c.args.numbers.now c.divisor_of-divisor.result c.requires c.divisor_of-divisor.ensures.divisor
    c.divisor_of-divisor.ensures.sign

pub returns : goal.returns
returns c = c.divide.ensures ∙ ap (quotients c.args.numbers.now)
    (divisor-is c.args.numbers.now c.divisor_of-divisor.result c.divisor_of-divisor.ensures.divisor c.divisor_of-divisor.ensures.sign)
