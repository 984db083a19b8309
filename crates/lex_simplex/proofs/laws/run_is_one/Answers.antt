use Rattle.lex_simplex.proofs.Runs.Ending.{problem_run_exists, problem_run_is_one}
use Rattle.lex_simplex.proofs.laws.run_is_one.Goals as goal

pub returns-clause-ends : goal.returns-clause-ends
returns-clause-ends c = problem_run_exists c.args.problem.now c.vars.ensures.problem

pub returns-clause-one : goal.returns-clause-one
returns-clause-one c d e n m a b = problem_run_is_one c.args.problem.now d e n m a b
