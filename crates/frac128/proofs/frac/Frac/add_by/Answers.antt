use Rattle.std.proofs.Common.{rules, ◌≡◌, pos, ◌+ℤ◌, ◌*ℤ◌, ◌<ℤ◌, int_div, unsigned_abs}
use Rattle.integers.specs.Divisibility.{IsGcdOf}
use Rattle.integers.specs.Fraction.{SameFraction, fraction_sum}
use Rattle.integers.proofs.Order.{mul_pos}
use Rattle.integers.proofs.Divisibility.{IsGcdOf-gcd_of, quotient_whole, quotient_positive}
use Rattle.frac128.specs.Checked.{SumFits}
use Rattle.frac128.proofs.Fits.{sum_value}
use Rattle.frac128.proofs.frac.Frac.add_by.Goals as goal

pub reduced-requires : goal.reduced-requires
reduced-requires c =
    let f = c.args.self.now in
    let g = c.args.other.now in
    let left : pos 0 <ℤ f.den = search rules in
    let right : pos 0 <ℤ g.den = search rules in
    let divides : IsGcdOf f.den g.den (unsigned_abs c.args.divisor) = rw c.requires.divisor (IsGcdOf-gcd_of f.den g.den) in
    let is : c.in_ok-den.den ≡ f.den *ℤ int_div g.den c.args.divisor = search rules in
    rw is (mul_pos f.den (int_div g.den c.args.divisor) left (quotient_positive g.den c.args.divisor right c.requires.positive divides.1))

pub returns : goal.returns
returns c =
    let f = c.args.self.now in
    let g = c.args.other.now in
    let k = c.args.divisor in
    let r = c.reduced.result in
    let divides : IsGcdOf f.den g.den (unsigned_abs k) = rw c.requires.divisor (IsGcdOf-gcd_of f.den g.den) in
    let parts : r.num *ℤ (f.den *ℤ int_div g.den k) ≡ (f.num *ℤ int_div g.den k +ℤ g.num *ℤ int_div f.den k) *ℤ r.den = search rules in
    let fits : SumFits f g = search rules in
    let value : SameFraction r (fraction_sum f g) =
    sum_value f.num f.den g.num g.den k (int_div f.den k) (int_div g.den k) r.num r.den (quotient_whole f.den k c.requires.positive divides.0)
    (quotient_whole g.den k c.requires.positive divides.1) parts in
    (fits, c.reduced.ensures.lowest, value)
