-- Bytes in memory, up to a room.
use Rattle.std.specs.Prelude.{ℕ, List}

-- what is held, and how much may be
pub record Shelved : Type 0 where
  pub held : List ℕ
  pub room : ℕ
