use Rattle.command_read.proofs.LawLemmas.{blocks_are}
use Rattle.command_read.proofs.laws.lines_with_blocks.Goals as goal

pub returns : goal.returns
returns c = blocks_are
