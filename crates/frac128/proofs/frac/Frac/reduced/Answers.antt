use Rattle.std.proofs.Common.{sym}
use Rattle.integers.proofs.Divisibility.{positive_divisor}
use Rattle.frac128.proofs.Numbers.{lowest_parts}
use Rattle.frac128.proofs.Checked.{lowest_terms-unique}
use Rattle.frac128.proofs.frac.Frac.reduced.Goals as goal

pub quotient-requires : goal.quotient-requires
quotient-requires c =
    positive_divisor c.args.den c.common_divisor-divisor.result c.requires c.common_divisor-divisor.ensures.divisor.1 c.common_divisor-divisor.ensures.sign

pub quotient-requires-2 : goal.quotient-requires-2
quotient-requires-2 c =
    positive_divisor c.args.den c.common_divisor-divisor.result c.requires c.common_divisor-divisor.ensures.divisor.1 c.common_divisor-divisor.ensures.sign

pub invariant_of-result : goal.invariant_of-result
invariant_of-result c =
    let parts =
    lowest_parts c.args.num c.args.den c.common_divisor-divisor.result c.requires c.common_divisor-divisor.ensures.divisor
    c.common_divisor-divisor.ensures.sign in
    rw (c.quotient.ensures, c.quotient-2.ensures) (parts.1, parts.0)

pub returns-clause-value : goal.returns-clause-value
returns-clause-value c =
    let parts =
    lowest_parts c.args.num c.args.den c.common_divisor-divisor.result c.requires c.common_divisor-divisor.ensures.divisor
    c.common_divisor-divisor.ensures.sign in
    rw (c.quotient.ensures, c.quotient-2.ensures) (sym parts.2)

pub returns-clause-lowest : goal.returns-clause-lowest
returns-clause-lowest c =
    let parts =
    lowest_parts c.args.num c.args.den c.common_divisor-divisor.result c.requires c.common_divisor-divisor.ensures.divisor
    c.common_divisor-divisor.ensures.sign in
    rw (c.quotient.ensures, c.quotient-2.ensures) (parts.1, parts.0)

pub returns-clause-is : goal.returns-clause-is
returns-clause-is c =
    lowest_terms-unique (record { num = c.quotient.result; den = c.quotient-2.result }) (record { num = c.args.num; den = c.args.den }) c.requires
    (returns-clause-lowest c) (returns-clause-value c)
