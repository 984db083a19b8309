use Rattle.std.proofs.Common.{refl, arith}
use Rattle.word_table.proofs.WordLemmas.{apart_by_test}
use Rattle.word_table.proofs.tables.commands.Goals as goal

pub of_apart-requires : goal.of_apart-requires
of_apart-requires c = (omega arith, (omega arith, (refl, apart_by_test _ refl)))
