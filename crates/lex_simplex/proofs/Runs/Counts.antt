-- Counts that stay at the greatest 64-bit number.
use Rattle.std.proofs.Common.{◌≡◌, ℕ, ◌+◌, ◌<◌, ◌^◌, arith}
use Rattle.lex_simplex.specs.Count.{capped_sum}

-- none more
pub capped_sum-zero : (count : ℕ) → count < 2 ^ 64 → count ≡ capped_sum count 0
capped_sum-zero count h = omega (arith, h)

-- some more, and then some more
pub capped_sum-capped_sum : (count more again : ℕ) → capped_sum (capped_sum count more) again ≡ capped_sum count (more + again)
capped_sum-capped_sum count more again = omega arith

-- as many more as another count has that began with none
pub capped_sum-counted : (count more : ℕ) → capped_sum count (capped_sum 0 more) ≡ capped_sum count more
capped_sum-counted count more = omega arith
