-- The range of the numbers that fractions are made of.
use Rattle.std.specs.Prelude.{ℤ, Bool, ◌<◌, ◌^◌, nat_lt, unsigned_abs}

-- within -(2^127 - 1) to 2^127 - 1: the 128-bit numbers without -2^127
abbrev pub IsInRange : ℤ → Type 0
IsInRange z = unsigned_abs z < 2 ^ 127

-- the same as a test
abbrev pub is_in_range : ℤ → Bool
is_in_range z = nat_lt (unsigned_abs z) (2 ^ 127)
