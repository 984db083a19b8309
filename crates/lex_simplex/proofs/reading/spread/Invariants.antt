use Rattle.std.proofs.Common.{◌≡◌, drop}
use Rattle.lex_simplex.specs.Answer.{spread_weights}
use Rattle.lex_simplex.proofs.reading.spread.Given as goal

abbrev pub invariant-loop-j : goal.invariant-loop-j
invariant-loop-j l = spread_weights (drop l.j l.columns) (drop l.j l.numbers) l.weights ≡ spread_weights l.columns l.numbers l.fn.weights
