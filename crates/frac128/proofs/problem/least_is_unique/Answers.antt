use Rattle.frac128.proofs.ProblemLaws.{least_unique}
use Rattle.frac128.proofs.problem.least_is_unique.Goals as goal

pub returns : goal.returns
returns c x n y m h k = (least_unique c.args.problem.now x n y m h k).1
