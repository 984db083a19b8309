-- The buffer behind the lines.
use Rattle.std.specs.Prelude.{◌≡◌, ℕ, ◌<◌, List, ◌++◌, length, take, slice_index, Option, MatchOption}
use Rattle.line_io.specs.Lines.{IsUnbroken}
use Rattle.line_io.specs.Outside.{Change, Took}

-- the line that was given last, and the bytes that no line has given yet
pub record Held : Type 0 where
  pub line : List ℕ
  pub in_hand : List ℕ

-- where the first newline lies, if there is one
abbrev pub IsFirstNewline : List ℕ → Option ℕ → Type 0
IsFirstNewline bytes found =
    MatchOption found (IsUnbroken bytes)
    (λ at. (at < length bytes) × IsUnbroken (take at bytes) × (slice_index bytes at ≡ 10))

-- so many bytes left a source, and stand behind those in hand
pub record Gains (source : Change) (old new : List ℕ) (count : ℕ) : Type 0 where
  pub bytes : List ℕ
  pub count_is : length bytes ≡ count
  pub took : Took source.told_old source.told_new bytes
  pub behind : new ≡ old ++ bytes
