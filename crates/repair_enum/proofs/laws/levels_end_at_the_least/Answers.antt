use Rattle.repair_enum.proofs.LevelLemmas.{levels_end, levels_find, levels_empty}
use Rattle.repair_enum.proofs.laws.levels_end_at_the_least.Goals as goal

pub returns-clause-ends : goal.returns-clause-ends
returns-clause-ends c = λ levels last. levels_end c.args.matrix.now levels last c.size.ensures.matrix c.requires

pub returns-clause-least : goal.returns-clause-least
returns-clause-least c = λ levels last. levels_find c.args.matrix.now levels last c.size.ensures.matrix c.requires

pub returns-clause-none : goal.returns-clause-none
returns-clause-none c = λ levels. levels_empty c.args.matrix.now levels c.size.ensures.matrix c.requires
