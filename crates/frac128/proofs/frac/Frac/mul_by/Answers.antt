use Rattle.std.proofs.Common.{rules, ◌≡◌, ◌*ℤ◌, int_div}
use Rattle.frac128.specs.Frac.{IsReduced}
use Rattle.frac128.specs.Checked.{ProductFits}
use Rattle.frac128.proofs.Fits.{product_is}
use Rattle.frac128.proofs.frac.Frac.mul_by.Goals as goal

-- the divided parts are coprime crosswise
pub invariant_of-result : goal.invariant_of-result
invariant_of-result c =
    let f = c.args.self.now in
    let g = c.args.other.now in
    let num_is : c.in_ok-num.num ≡ int_div f.num c.args.first *ℤ int_div g.num c.args.second = search rules in
    let den_is : c.in_ok-den.den ≡ int_div f.den c.args.second *ℤ int_div g.den c.args.first = search rules in
    let left : IsReduced f = rw (← c.self.view_is) c.self.invariant in
    let right : IsReduced g = rw (← c.other.view_is) c.other.invariant in
    (product_is f g c.args.first c.args.second c.in_ok-num.num c.in_ok-den.den left right c.requires.positive.0 c.requires.positive.1 c.requires.first
    c.requires.second num_is den_is).0

pub returns : goal.returns
returns c =
    let f = c.args.self.now in
    let g = c.args.other.now in
    let num_is : c.in_ok-num.num ≡ int_div f.num c.args.first *ℤ int_div g.num c.args.second = search rules in
    let den_is : c.in_ok-den.den ≡ int_div f.den c.args.second *ℤ int_div g.den c.args.first = search rules in
    let left : IsReduced f = rw (← c.self.view_is) c.self.invariant in
    let right : IsReduced g = rw (← c.other.view_is) c.other.invariant in
    let fits : ProductFits f g = search rules in
    let is =
    product_is f g c.args.first c.args.second c.in_ok-num.num c.in_ok-den.den left right c.requires.positive.0 c.requires.positive.1 c.requires.first
    c.requires.second num_is den_is in
    (fits, is.0, is.1)
