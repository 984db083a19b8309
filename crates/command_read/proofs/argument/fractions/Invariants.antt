use Rattle.std.proofs.Common.{◌≡◌, ◌++◌, length, List, Ok}
use Rattle.integers.specs.Fraction.{Fraction}
use Rattle.command_read.specs.Parts.{fractions}
use Rattle.frac128.specs.Chain.{◌>>=◌}
use Rattle.command_read.specs.Words.{words}
use Rattle.command_read.proofs.argument.fractions.Given as goal

-- those read and those behind them are all of them
abbrev pub invariant-loop-word : goal.invariant-loop-word
invariant-loop-word l = (fractions (words l.rest) >>= (λ (others : List Fraction). Ok (l.all.items ++ others))) ≡ fractions (words l.fn.text)

abbrev pub decreases-loop-word : goal.decreases-loop-word
decreases-loop-word l = length l.rest
