use Rattle.std.proofs.Common.{◌-◌, ◌+◌}
use Rattle.integers.specs.Counting.{numbers_from}
use Rattle.integers.proofs.Loops.{push_next}
use Rattle.integers.proofs.Numbers.{numbers_from-next}
use Rattle.lex_simplex.proofs.start.first_columns.Goals as goal

pub loop-variable-preserved : goal.loop-variable-preserved
loop-variable-preserved c = push_next c.loop-variable.columns.items (numbers_from 0 c.args.vars)
    (numbers_from c.loop-variable.variable (c.args.vars - c.loop-variable.variable))
    (numbers_from (c.loop-variable.variable + 1) (c.args.vars - (c.loop-variable.variable + 1))) c.push.new.self.items c.loop-variable.variable
    c.loop-variable.invariant (numbers_from-next c.loop-variable.variable c.args.vars c.loop-variable-test.true) c.in_ok-push.ensures.items
