-- Counts that stay at the greatest 64-bit number.
use Rattle.std.specs.Prelude.{ℕ, ◌+◌, ◌-◌, ◌^◌, min}

-- the count with so many more
abbrev pub capped_sum : ℕ → ℕ → ℕ
capped_sum count more = min (count + more) (2 ^ 64 - 1)
