use Rattle.std.proofs.Common.{◌≡◌, map, take}
use Rattle.word_table.specs.Words.{AreApart}
use Rattle.model_core.proofs.criterion.are_apart.Given as goal

abbrev pub invariant-loop-name : goal.invariant-loop-name
invariant-loop-name l = record { seen : map (λ k. k.now) l.seen.keys ≡ take l.name-index l.names; apart : AreApart (take l.name-index l.names) }
