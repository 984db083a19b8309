use Rattle.value_scale.proofs.BasicLemmas.{too_wide_found}
use Rattle.value_scale.proofs.basic.solved.Goals as goal

pub returns-in-Err-TooWide : goal.returns-in-Err-TooWide
returns-in-Err-TooWide c =
    too_wide_found c.args.matrix.now c.in_ok-problem.problem c.args.pivots.now c.solve.new.pivots c.in-Err-TooWide.field-0 c.in_ok-problem.ensures
    c.in-Err-TooWide.field-0-is c.in-Err-TooWide.ensures
