-- Blocks as commands hold them.
use Rattle.std.specs.Prelude.{[]}
use Rattle.command_read.specs.declared.block.Block.{Block}
use Rattle.command_read.specs.declared.block.Block.TheVariants as block
use Rattle.command_read.specs.declared.block.Held.{Held}
use Rattle.command_read.specs.declared.block.Held.TheVariants as held

-- what a command holds of the block behind its line; an absent one is held as a block without lines
abbrev pub held_of : Block → Held
held_of block.Absent = held.Whole []
held_of (block.Whole bytes) = held.Whole bytes.now
held_of block.Cut = held.Cut
held_of block.Large = held.Large
