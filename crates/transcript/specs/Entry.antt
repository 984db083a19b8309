-- What is answered: a line, with the block behind it where it takes one.
use Rattle.std.specs.Prelude.{ℕ, List}

-- the block behind a line: its bytes, or that the input ended in it, or that it has more bytes than are kept
pub data Block : Type 0 where
  whole : List ℕ → Block
  cut : Block
  large : Block

-- a line that is too long, a line without its newline, or one that takes a block, with that
pub data Entry : Type 0 where
  too_long : Entry
  line : List ℕ → Entry
  with_block : List ℕ → Block → Entry
