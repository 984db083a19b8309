use Rattle.std.proofs.Common.{◌≡◌, ◌++◌, ◌-◌}
use Rattle.integers.specs.Counting.{numbers_from}
use Rattle.lex_simplex.proofs.start.first_columns.Given as goal

abbrev pub invariant-loop-variable : goal.invariant-loop-variable
invariant-loop-variable l = l.columns.items ++ numbers_from l.variable (l.vars - l.variable) ≡ numbers_from 0 l.vars
