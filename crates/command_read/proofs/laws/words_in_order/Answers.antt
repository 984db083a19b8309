use Rattle.command_read.proofs.WordLemmas.{words_from_first}
use Rattle.command_read.proofs.laws.words_in_order.Goals as goal

pub returns : goal.returns
returns c = words_from_first
