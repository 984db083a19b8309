use Rattle.repair_enum.proofs.LevelLemmas.{level_step}
use Rattle.repair_enum.proofs.laws.children_cover.Goals as goal

pub returns : goal.returns
returns c = λ k level next. level_step c.args.matrix.now k level next c.size.ensures.matrix c.requires
