-- The share by which a counterexample goes from a closed optimum, whose value is below 0, towards an open point.
use Rattle.std.specs.Prelude.{pos, ◌*ℤ◌, ◌≤ℤ◌, ◌<ℤ◌, int_lt, if◌then◌else◌}
use Rattle.integers.specs.Fraction.{Fraction, IsFraction, fraction_of, fraction_sum, fraction_difference, fraction_product, fraction_quotient}

-- a fraction above 0 and at most 1
pub record IsShare (s : Fraction) : Type 0 where
  pub den_pos : IsFraction s
  pub above : pos 0 <ℤ s.num
  pub most : s.num ≤ℤ s.den

-- half of a fraction
abbrev pub half : Fraction → Fraction
half g = fraction_quotient g (fraction_of (pos 2))

-- 1 where the open point's value h is at most half of the optimum's g, else what half of g is of the difference
abbrev pub share : Fraction → Fraction → Fraction
share g h = if int_lt ((half g).num *ℤ h.den) (h.num *ℤ (half g).den)
    then fraction_quotient (fraction_difference (fraction_of (pos 0)) (half g)) (fraction_difference h g)
    else fraction_of (pos 1)

-- the value of the mixture that goes the share s from g towards h
abbrev pub mixed_value : Fraction → Fraction → Fraction → Fraction
mixed_value g h s = fraction_sum g (fraction_product s (fraction_difference h g))
