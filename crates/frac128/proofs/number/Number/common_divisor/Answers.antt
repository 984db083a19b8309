use mir.Syntax.{w128}
use Rattle.std.specs.Int.{IsGcd}
use Rattle.std.proofs.lemmas.Int.{fits_signed_from_abs, to_z_pos}
use Rattle.std.proofs.Common.{rules, ◌≡◌, ◌<◌, ◌^◌, pos, unsigned_abs, to_z, subst₂}
use Rattle.integers.proofs.Divisibility.{gcd_of-is}
use Rattle.frac128.proofs.Numbers.{IsGcd-below, pos_nonneg}
use Rattle.frac128.proofs.number.Number.common_divisor.Goals as goal

-- the divisor is no larger than the numbers
small : (c : goal.After-greatest_common_divisor-divisor) → c.greatest_common_divisor-divisor.result < 2 ^ 127
small c =
    let left : c.unsigned_abs.result < 2 ^ 127 = search rules in
    let right : c.unsigned_abs-2.result < 2 ^ 127 = search rules in
    IsGcd-below c.unsigned_abs.result c.unsigned_abs-2.result c.greatest_common_divisor-divisor.result (2 ^ 127) left right
    c.greatest_common_divisor-divisor.ensures

-- the cast keeps it
kept : (c : goal.After-greatest_common_divisor-divisor) → to_z w128 c.greatest_common_divisor-divisor.result ≡ pos c.greatest_common_divisor-divisor.result
kept c = to_z_pos w128 c.greatest_common_divisor-divisor.result (small c)

pub overflow_cast-result : goal.overflow_cast-result
overflow_cast-result c = fits_signed_from_abs w128 (pos c.greatest_common_divisor-divisor.result) (small c)

pub invariant_of-result : goal.invariant_of-result
invariant_of-result c = rw (kept c) (small c)

-- the absolute values are those of the numbers
pub returns-clause-divisor : goal.returns-clause-divisor
returns-clause-divisor c =
    let left : c.unsigned_abs.result ≡ unsigned_abs c.args.self = search rules in
    let right : c.unsigned_abs-2.result ≡ unsigned_abs c.args.other = search rules in
    rw (kept c) (subst₂ (λ m n. IsGcd m n c.greatest_common_divisor-divisor.result) left right c.greatest_common_divisor-divisor.ensures)

pub returns-clause-sign : goal.returns-clause-sign
returns-clause-sign c = rw (kept c) (pos_nonneg c.greatest_common_divisor-divisor.result)

pub returns-clause-is : goal.returns-clause-is
returns-clause-is c = gcd_of-is c.args.self c.args.other (to_z w128 c.greatest_common_divisor-divisor.result) (returns-clause-divisor c) (returns-clause-sign c)
