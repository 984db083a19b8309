use Rattle.std.proofs.Common.{Ok}
use Rattle.value_scale.proofs.BasicLemmas.{added_to}
use Rattle.value_scale.proofs.basic.basic_scale.Goals as goal

pub returns-in-Ok : goal.returns-in-Ok
returns-in-Ok c = (
  c.in-Ok.ensures.0,
  added_to c.args.matrix.now c.args.pivots.now c.new-made.result c.solved.new.pivots c.add.new.self (Ok c.in-Ok.basic) c.new-made.ensures
      c.in-Ok.ensures.1 c.add.ensures,
)
