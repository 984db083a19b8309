use Rattle.repair_enum.proofs.LevelLemmas.{shifts_near, too_far}
use Rattle.repair_enum.proofs.laws.near_shifts_of_levels.Goals as goal

pub returns-clause-near : goal.returns-clause-near
returns-clause-near c = shifts_near c.args.matrix.now

pub returns-clause-too_far : goal.returns-clause-too_far
returns-clause-too_far c = too_far c.args.matrix.now
