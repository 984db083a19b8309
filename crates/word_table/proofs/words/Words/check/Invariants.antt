use Rattle.std.proofs.Common.{map, take}
use Rattle.word_table.specs.Words.{AreApart}
use Rattle.word_table.proofs.words.Words.check.Given as goal

abbrev pub invariant-loop-place : goal.invariant-loop-place
invariant-loop-place g l = AreApart (take l.place (map (λ word. word.now) l.words))
