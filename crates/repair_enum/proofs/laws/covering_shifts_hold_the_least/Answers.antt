use Rattle.repair_enum.proofs.LevelLemmas.{least_are, none_left}
use Rattle.repair_enum.proofs.laws.covering_shifts_hold_the_least.Goals as goal

pub returns-clause-least : goal.returns-clause-least
returns-clause-least c = least_are c.args.matrix.now

pub returns-clause-none : goal.returns-clause-none
returns-clause-none c = none_left c.args.matrix.now
