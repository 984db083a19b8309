-- A judge's answer: the categories from lo to hi, of 0 (no) to 6 (extreme).
use Rattle.std.specs.Prelude.{ℕ, ◌≤◌}

-- the least and the greatest category
pub record Bounds : Type 0 where
  pub lo : ℕ
  pub hi : ℕ

-- what a range keeps
abbrev pub IsRange : Bounds → Type 0
IsRange range = (range.lo ≤ range.hi) × (range.hi ≤ 6)

-- all categories: what an unjudged pair has
abbrev pub full : Bounds
full = record { lo = 0; hi = 6 }

-- the categories from lo to hi
abbrev pub bounds : ℕ → ℕ → Bounds
bounds lo hi = record { lo = lo; hi = hi }
