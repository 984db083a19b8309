-- The first of some numbers at which a property fails.
use Rattle.std.specs.Prelude.{ℕ, ◌<◌}

-- the property holds at each number below k and not at k, which is below n
pub record IsFirstFailing (P : ℕ → Type 0) (n k : ℕ) : Type 0 where
  pub below : k < n
  pub fails : ¬ P k
  pub hold : (i : ℕ) → i < k → P i
