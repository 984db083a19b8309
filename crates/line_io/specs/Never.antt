-- A sink that never fails.
use Rattle.std.specs.Prelude.{◌≡◌, ℕ, ◌-◌, ◌≤◌, ◌↔◌, Bool, true, List, ◌++◌, length, take, Option, None, Some, if◌then◌else◌}

-- what it keeps
pub record Kept : Type 0 where
  pub bytes : List ℕ
  -- the most bytes that it keeps
  pub room : ℕ
  -- whether it kept all
  pub is_whole : Bool

-- what it tells: what it holds, as long as it kept all
abbrev pub told : Kept → Option (List ℕ)
told kept = if kept.is_whole then Some kept.bytes else None

-- of these bytes it keeps those that fit
pub record Keeps (old new : Kept) (bytes : List ℕ) : Type 0 where
  pub kept : new.bytes ≡ old.bytes ++ take (old.room - length old.bytes) bytes
  pub room : new.room ≡ old.room
  pub is_whole : (new.is_whole ≡ true) ↔ ((old.is_whole ≡ true) × (length bytes ≤ old.room - length old.bytes))
