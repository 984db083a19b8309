use Rattle.frac128.proofs.ProblemLaws.{IsFeasible-same, IsLeast-same}
use Rattle.frac128.proofs.problem.writing_does_not_count.Goals as goal

pub returns : goal.returns
returns c = record {
  feasible = IsFeasible-same c.args.problem.now;
  least = IsLeast-same c.args.problem.now;
}
