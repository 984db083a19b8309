use Rattle.std.proofs.Common.{All, take}
use Rattle.integers.specs.Fraction.{IsFraction}
use Rattle.judgement_matrix.proofs.meets.are_fractions.Given as goal

abbrev pub invariant-loop-value : goal.invariant-loop-value
invariant-loop-value l = All IsFraction (take l.value-index l.values)
