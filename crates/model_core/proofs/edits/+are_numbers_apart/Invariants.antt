use Rattle.std.proofs.Common.{length}
use Rattle.model_core.proofs.edits.+are_numbers_apart.Given as goal

abbrev pub decreases-are_numbers_apart : goal.decreases-are_numbers_apart
decreases-are_numbers_apart l = length l.numbers.now
