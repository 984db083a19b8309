use Rattle.std.proofs.Common.{All, take}
use Rattle.frac128.specs.Frac.{IsReduced}
use Rattle.frac128.proofs.laws.are_fractions.Given as goal

abbrev pub invariant-loop-fraction : goal.invariant-loop-fraction
invariant-loop-fraction l = All IsReduced (take l.fraction-index l.fractions)
